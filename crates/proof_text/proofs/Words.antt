-- Literals and hints in words of their own: they are read again.
use Rattle.std.proofs.Common.{◌≡◌, ℕ, suc, ◌-◌, ◌^◌, ◌<◌, ◌≤◌, ◌==◌, ◌&&◌, ◌-ℤ◌, ℤ, pos, negsuc, true, false, cond, eqb, nat_le, List, [], ◌∷◌, ◌++◌, get_or, Some, None, ap, ◌∙◌, sym, subst, arith, append_assoc, append-nil, tests}
use Rattle.std.specs.Prelude.{All, codes, decimal, option_and_then, option_map}
use Rattle.std.specs.Char.{is_ascii_digit}
use Rattle.std.specs.Fmt.{signed_decimal}
use Rattle.std.specs.List.{AllByRecursion}
use Rattle.std.proofs.lemmas.Bool.Decides.{nat_tests}
use Rattle.std.proofs.lemmas.Fmt.{decimal_digit, first_decimal}
use Rattle.std.proofs.lemmas.Int.{ints}
use Rattle.text_lines.specs.Number.{cut}
use Rattle.text_lines.specs.Part.{Lacks}
use Rattle.text_lines.proofs.Decimals.{decimal_lacks, number_again}
use Rattle.proof_text.specs.Line.{hints_onto, is_end, literal_of, literals_onto, positive_of, within}
use Rattle.refutation.specs.Literal.{IsLiteral}
use Rattle.proof_text.specs.Text.{clause_words, hint_words}
use Rattle.proof_text.specs.Laws.{IsHint}

within-again : (most n : ℕ) → 0 < n → n ≤ most → within most n ≡ Some n
within-again most n low high =
    let t : (nat_le 1 n && nat_le n most) ≡ true = grind (arith, nat_tests, low, high) in ap (λ b. cond b (Some n) None) t

pub positive-again : (most n : ℕ) → 0 < n → n ≤ most → n < cut → positive_of most (decimal n) ≡ Some n
unfolding positive_of
positive-again most n low high small = ap (option_and_then (within most)) (number_again n small) ∙ within-again most n low high

-- a word that begins with a digit above 0 is no end, and no negative literal
not-end : (word : List ℕ) → 48 < get_or word 0 0 → is_end word ≡ false
not-end word high = grind (arith, tests, high)

plain-literal : (vars : ℕ) (word : List ℕ) → 48 < get_or word 0 0 → literal_of vars word ≡ option_map pos (positive_of vars word)
unfolding literal_of
plain-literal vars [] high = absurd (omega (arith, high))
plain-literal vars (byte ∷ rest) high =
    let other : (byte == 45) ≡ false = grind (arith, tests, high) in
    ap (λ b. cond b (option_map (λ n. pos 0 -ℤ pos n) (positive_of vars rest)) (option_map pos (positive_of vars (byte ∷ rest)))) other

pub literal-again : (vars : ℕ) (literal : ℤ) → IsLiteral vars literal → vars < 2 ^ 31 →
    (literal_of vars (signed_decimal literal) ≡ Some literal) × (is_end (signed_decimal literal) ≡ false)
unfolding literal_of
literal-again vars (pos n) is few =
    let small : n < 2 ^ 64 = omega (arith, is.1, few) in
    let high = first_decimal n is.0 small in
    (plain-literal vars (decimal n) high ∙ ap (option_map pos) (positive-again vars n is.0 is.1 small), not-end (decimal n) high)
literal-again vars (negsuc n) is few =
    let small : suc n < 2 ^ 64 = omega (arith, is.1, few) in
    let minus : pos 0 -ℤ pos (suc n) ≡ negsuc n = omega (arith, ints) in
    (ap (option_map (λ n. pos 0 -ℤ pos n)) (positive-again vars (suc n) is.0 is.1 small) ∙ ap Some minus, grind (arith, tests))

tail-literals : (vars : ℕ) (literal : ℤ) (literals : List ℤ) → All (IsLiteral vars) (literal ∷ literals) → All (IsLiteral vars) literals
tail-literals vars literal literals all = λ k d h. all (suc k) d (omega (arith, h))

pub literals-again : (vars : ℕ) (acc literals : List ℤ) (rest : List (List ℕ)) → vars < 2 ^ 31 → All (IsLiteral vars) literals →
    literals_onto vars acc (clause_words literals ++ rest) ≡ Some (acc ++ literals, rest)
unfolding literals_onto
literals-again vars acc [] rest few all = ap (λ xs. Some (xs, rest)) (sym (append-nil acc))
literals-again vars acc (literal ∷ literals) rest few all =
    let word = literal-again vars literal (all 0 literal (omega arith)) few in
    rw (word.1, word.0) (literals-again vars (acc ++ literal ∷ []) literals rest few (tail-literals vars literal literals all)
    ∙ ap (λ xs. Some (xs, rest)) (append_assoc acc (literal ∷ []) literals))

pub hints-again : (acc hints : List ℕ) → AllByRecursion IsHint hints → hints_onto acc (hint_words hints) ≡ Some (acc ++ hints)
unfolding hints_onto
hints-again acc [] all = ap Some (sym (append-nil acc))
hints-again acc (hint ∷ hints) all =
    let small : hint < 2 ^ 64 = omega (arith, all.0.1) in
    let read = positive-again (2 ^ 32 - 1) hint all.0.0 (omega (arith, all.0.1)) small in
    rw (not-end (decimal hint) (first_decimal hint all.0.0 small), read) (hints-again (acc ++ hint ∷ []) hints all.1
    ∙ ap Some (append_assoc acc (hint ∷ []) hints))

-- words lack bytes that are no digit and no minus sign
literal-lacks : (byte vars : ℕ) (literal : ℤ) → is_ascii_digit byte ≡ false → eqb 45 byte ≡ false → IsLiteral vars literal → vars < 2 ^ 31 →
    Lacks byte (signed_decimal literal)
literal-lacks byte vars (pos n) other minus is few = decimal_lacks byte n other (omega (arith, is.1, few))
literal-lacks byte vars (negsuc n) other minus is few = (minus, decimal_lacks byte (suc n) other (omega (arith, is.1, few)))

zero-lacks : (byte : ℕ) → is_ascii_digit byte ≡ false → Lacks byte (codes "0")
zero-lacks byte other = subst (Lacks byte) (decimal_digit 0 (omega arith)) (decimal_lacks byte 0 other (omega arith))

pub clause-lacks : (byte vars : ℕ) (literals : List ℤ) (more : List (List ℕ)) → is_ascii_digit byte ≡ false → eqb 45 byte ≡ false →
    All (IsLiteral vars) literals → vars < 2 ^ 31 → AllByRecursion (Lacks byte) more → AllByRecursion (Lacks byte) (clause_words literals ++ more)
clause-lacks byte vars [] more other minus all few rest = (zero-lacks byte other, rest)
clause-lacks byte vars (literal ∷ literals) more other minus all few rest = (
  literal-lacks byte vars literal other minus (all 0 literal (omega arith)) few,
  clause-lacks byte vars literals more other minus (tail-literals vars literal literals all) few rest,
)

pub hints-lack : (byte : ℕ) (hints : List ℕ) → is_ascii_digit byte ≡ false → AllByRecursion IsHint hints → AllByRecursion (Lacks byte) (hint_words hints)
hints-lack byte [] other all = (zero-lacks byte other, tt)
hints-lack byte (hint ∷ hints) other all =
    (decimal_lacks byte hint other (omega (arith, all.0.1)), hints-lack byte hints other all.1)
