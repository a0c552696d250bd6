-- Lines that are taken in, one after the other.
use Rattle.std.proofs.Common.{◌≡◌, ℕ, ◌+◌, List, [], ◌∷◌, ◌++◌, length, Option, Some, None, ap, ◌∙◌, arith}
use Rattle.std.specs.Prelude.{option_and_then}
use Rattle.rc_base.specs.Failures.{◌>>=◌, or_error}
use Rattle.proof_text.specs.declared.error.ProofsError.TheVariants.{BadLog}
use Rattle.proof_text.specs.Reading.{Reading, lines_from, taken}

-- all of these lines, each where it may stand
abbrev pub all_taken : Reading → List (List ℕ) → Option Reading
all_taken here [] = Some here
all_taken here (line ∷ lines) = option_and_then (λ after. all_taken after lines) (taken here line)

pub all_taken-append : (here : Reading) (front back : List (List ℕ)) (between after : Reading) → all_taken here front ≡ Some between →
    all_taken between back ≡ Some after → all_taken here (front ++ back) ≡ Some after
all_taken-append here [] back between after e f = let same : here ≡ between = cc in ap (λ r. all_taken r back) same ∙ f
all_taken-append here (line ∷ lines) back between after e f =
    by (taken here line) (λ next. all_taken-append next lines back between after) e
  where
    by : (found : Option Reading) → ((next : Reading) → all_taken next lines ≡ Some between → all_taken between back ≡ Some after → all_taken next (lines ++ back) ≡ Some after) →
        option_and_then (λ next. all_taken next lines) found ≡ Some between → option_and_then (λ next. all_taken next (lines ++ back)) found ≡ Some after
    by None go e = cc
    by (Some next) go e = go next e f

pub one_taken : (here after : Reading) (line : List ℕ) → taken here line ≡ Some after → all_taken here (line ∷ []) ≡ Some after
one_taken here after line e = ap (λ found. option_and_then (λ next. Some next) found) e

-- lines before others are taken in first
pub lines-taken : (here after : Reading) (number : ℕ) (lines : List (List ℕ)) (last : List ℕ) (more : List (List ℕ)) →
    all_taken here lines ≡ Some after →
    lines_from here number (lines ++ last ∷ more) ≡ lines_from after (number + length lines) (last ∷ more)
unfolding lines_from
lines-taken here after number [] last more e =
    let same : here ≡ after = cc in
    ap (λ r. lines_from r number (last ∷ more)) same ∙ ap (λ n. lines_from after n (last ∷ more)) (omega arith)
lines-taken here after number (line ∷ []) last more e =
    by (taken here line) e
  where
    by : (found : Option Reading) → option_and_then (λ next. Some next) found ≡ Some after →
        ((or_error (BadLog number) found) >>= (λ next. lines_from next (number + 1) (last ∷ more))) ≡ lines_from after (number + 1) (last ∷ more)
    by None e = cc
    by (Some next) e = let same : next ≡ after = cc in ap (λ r. lines_from r (number + 1) (last ∷ more)) same
lines-taken here after number (line ∷ other ∷ lines) last more e =
    by (taken here line) (λ next. lines-taken next after (number + 1) (other ∷ lines) last more) e
  where
    by : (found : Option Reading) →
        ((next : Reading) → all_taken next (other ∷ lines) ≡ Some after →
        lines_from next (number + 1) (other ∷ lines ++ last ∷ more) ≡ lines_from after (number + 1 + length (other ∷ lines)) (last ∷ more)) →
        option_and_then (λ next. all_taken next (other ∷ lines)) found ≡ Some after →
        ((or_error (BadLog number) found) >>= (λ next. lines_from next (number + 1) (other ∷ lines ++ last ∷ more)))
        ≡ lines_from after (number + length (line ∷ other ∷ lines)) (last ∷ more)
    by None go e = cc
    by (Some next) go e = go next e ∙ ap (λ n. lines_from after n (last ∷ more)) (omega arith)
