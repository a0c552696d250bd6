-- Literals that are read, and variables of which no two are equal.
use Rattle.std.proofs.Common.{◌≡◌, ℕ, ◌<◌, ◌≤◌, ◌==◌, ◌-ℤ◌, ℤ, pos, unsigned_abs, Bool, true, false, cond, nat_le, ◌&&◌, List, [], ◌∷◌, ◌++◌, Option, Some, None, refl, ap, ◌∙◌, sym, subst, arith, eqb}
use Rattle.std.proofs.lemmas.List.{length-map}
use Rattle.std.proofs.lemmas.Int.{ints}
use Rattle.std.specs.Prelude.{All, option_and_then, option_map}
use Rattle.std.specs.Ordering.{eq_by_cmp, nat_cmp}
use Rattle.std.specs.Cmp.{unsigned_tied}
use Rattle.std.specs.Set.{distinct_count}
use Rattle.std.specs.List.{IsDistinct}
use Rattle.std.proofs.lemmas.Bool.{eq-eqb, eqb-true}
use Rattle.std.proofs.lemmas.Bool.Decides.{nat_tests}
use Rattle.std.proofs.lemmas.List.Elements.{All-nil, All-push}
use Rattle.std.proofs.lemmas.Cmp.{eq_by_cmp_equiv, nat_cmp_total}
use Rattle.std.proofs.lemmas.Map.Made.{IsDistinct-from_count, distinct_count-from_IsDistinct}
use Rattle.text_lines.specs.Number.{number_of}
use Rattle.proof_text.specs.Line.{are_distinct, is_end, literal_of, literals_onto, positive_of, within}
use Rattle.refutation.specs.Literal.{IsClause, IsLiteral, variables}

tied : eq_by_cmp nat_cmp ≡ eqb
tied = λ i a b. unsigned_tied a b i

pub same_count : (xs : List ℕ) → distinct_count (eq_by_cmp nat_cmp) xs ≡ distinct_count (λ a b. a == b) xs
same_count xs = ap (λ e. distinct_count e xs) tied

distinct-from_test : (clause : List ℤ) → are_distinct clause ≡ true → IsDistinct (λ a b. a == b) (variables clause)
distinct-from_test clause h =
    let P : (ℕ → ℕ → Bool) → Type 0 = λ e. IsDistinct e (variables clause) in
    let counted = same_count (variables clause) ∙ eqb-true _ _ h ∙ sym (length-map clause unsigned_abs) in
    subst P tied (IsDistinct-from_count (eq_by_cmp_equiv nat_cmp_total) (variables clause) counted)

pub distinct-again : (clause : List ℤ) → IsDistinct (λ a b. a == b) (variables clause) → are_distinct clause ≡ true
distinct-again clause distinct =
    let P : (ℕ → ℕ → Bool) → Type 0 = λ e. IsDistinct e (variables clause) in
    let counted = distinct_count-from_IsDistinct (eq_by_cmp_equiv nat_cmp_total) (variables clause) (subst P (sym tied) distinct) in
    eq-eqb _ _ (sym (same_count (variables clause)) ∙ counted ∙ length-map clause unsigned_abs)

within-range : (most number n : ℕ) → within most number ≡ Some n → (0 < n) × (n ≤ most)
within-range most number n e = by (nat_le 1 number && nat_le number most) refl e
  where
    by : (t : Bool) → (nat_le 1 number && nat_le number most) ≡ t → cond t (Some number) None ≡ Some n → (0 < n) × (n ≤ most)
    by true h e = let same : number ≡ n = cc in grind (arith, nat_tests, h, same)
    by false h e = cc

pub positive-range : (most : ℕ) (word : List ℕ) (n : ℕ) → positive_of most word ≡ Some n → (0 < n) × (n ≤ most)
unfolding positive_of
positive-range most word n e = by (number_of word) e
  where
    by : (found : Option ℕ) → option_and_then (within most) found ≡ Some n → (0 < n) × (n ≤ most)
    by None e = cc
    by (Some number) e = within-range most number n e

abs-negative : (n : ℕ) → unsigned_abs (pos 0 -ℤ pos n) ≡ n
abs-negative n = omega (arith, ints)

literal-range : (vars : ℕ) (word : List ℕ) (literal : ℤ) → literal_of vars word ≡ Some literal → IsLiteral vars literal
unfolding literal_of
literal-range vars [] literal e = cc
literal-range vars (byte ∷ rest) literal e = by (byte == 45) (positive_of vars rest) refl (positive_of vars (byte ∷ rest)) refl e
  where
    by : (t : Bool) (behind : Option ℕ) → positive_of vars rest ≡ behind → (whole : Option ℕ) → positive_of vars (byte ∷ rest) ≡ whole →
        cond t (option_map (λ n. pos 0 -ℤ pos n) behind) (option_map pos whole) ≡ Some literal → IsLiteral vars literal
    by true None b whole w e = cc
    by true (Some n) b whole w e =
        let same : pos 0 -ℤ pos n ≡ literal = cc in
        let range = positive-range vars rest n b in
        subst (IsLiteral vars) same (rw (abs-negative n) range)
    by false behind b None w e = cc
    by false behind b (Some n) w e =
        let same : pos n ≡ literal = cc in subst (IsLiteral vars) same (positive-range vars (byte ∷ rest) n w)

literals-range : (vars : ℕ) (acc : List ℤ) (words : List (List ℕ)) (clause : List ℤ) (rest : List (List ℕ)) →
    literals_onto vars acc words ≡ Some (clause, rest) → All (IsLiteral vars) acc → All (IsLiteral vars) clause
unfolding literals_onto
literals-range vars acc [] clause rest e all = cc
literals-range vars acc (word ∷ words) clause rest e all =
    by (is_end word) (literal_of vars word) refl (λ literal. literals-range vars (acc ++ literal ∷ []) words clause rest) e
  where
    by : (t : Bool) (found : Option ℤ) → literal_of vars word ≡ found →
        ((literal : ℤ) → literals_onto vars (acc ++ literal ∷ []) words ≡ Some (clause, rest) → All (IsLiteral vars) (acc ++ literal ∷ []) → All (IsLiteral vars) clause) →
        cond t (Some (acc, words)) (option_and_then (λ literal. literals_onto vars (acc ++ literal ∷ []) words) found) ≡ Some (clause, rest) →
        All (IsLiteral vars) clause
    by true found f next e =
        let pair : (acc, words) ≡ (clause, rest) = cc in let same = ap (λ (p : List ℤ × List (List ℕ)). p.0) pair in subst (All (IsLiteral vars)) same all
    by false None f next e = cc
    by false (Some literal) f next e = next literal e (All-push (IsLiteral vars) acc literal all (literal-range vars word literal f))

-- what is read, and passes the test, is a clause
pub read_is_clause : (vars : ℕ) (words rest : List (List ℕ)) (clause : List ℤ) → literals_onto vars [] words ≡ Some (clause, rest) →
    are_distinct clause ≡ true → IsClause vars clause
read_is_clause vars words rest clause e distinct =
    (literals-range vars [] words clause rest e (All-nil (IsLiteral vars)), distinct-from_test clause distinct)
