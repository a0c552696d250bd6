-- Numbers as they are spelled: digits, which read as the number.
use Rattle.std.proofs.Common.{◌≡◌, ℕ, ◌&&◌, ◌^◌, ◌<◌, ◌≤◌, Bool, true, false, not, min, eqb, ltb, List, length, get_or, Some, refl, ap, ◌∙◌, sym, arith, rules, tests, ⊎_elim}
use Rattle.std.specs.Prelude.{decimal}
use Rattle.std.specs.Char.{is_ascii_digit}
use Rattle.std.specs.List.{list_all}
use Rattle.std.specs.Str.Parse.{digits_value}
use Rattle.std.proofs.lemmas.Bool.{and_parts, cases_lt}
use Rattle.std.proofs.lemmas.Fmt.{decimal-digits_value, decimal_digit, decimal_nonempty, digits_decimal, digits_value-decimal, first_decimal}
use Rattle.std.proofs.lemmas.Option.{cond_some}
use Rattle.std.proofs.lemmas.Str.Parse.{IsNumeralModel, numerals_by_value}
use Rattle.text_lines.specs.Number.{cut, has_leading_zero, is_numeral, number_of}
use Rattle.text_lines.specs.Part.{Lacks}
use Rattle.text_lines.proofs.Joined.{passing_lack}

pub own : IsNumeralModel (λ ds. list_all is_ascii_digit ds ≡ true) (digits_value 10)
own = numerals_by_value _ (search rules)

not_empty : (n : ℕ) → not (eqb n 0) ≡ true → 0 < n
not_empty n is = grind (arith, tests)

one_digit : (n d : ℕ) → not (ltb 1 n && eqb d 48) ≡ true → d ≡ 48 → n ≤ 1
one_digit n d is zero = grind (arith, tests)

pub numeral_parts : (word : List ℕ) → is_numeral word ≡ true →
    (list_all is_ascii_digit word ≡ true) × (0 < length word) × (get_or word 0 0 ≡ 48 → length word ≡ 1)
numeral_parts word is =
    let parts = and_parts _ _ is in
    let front = and_parts _ _ parts.0 in
    let some : 0 < length word = not_empty (length word) front.0 in
    (parts.1, some, λ zero. omega (arith, some, one_digit (length word) (get_or word 0 0) front.1 zero))

pub number_is : (n : ℕ) (word : List ℕ) → n < cut → number_of word ≡ Some n → word ≡ decimal n
unfolding number_of
number_is n word small is =
    let some = cond_some (is_numeral word) (min (digits_value 10 word) cut) n is in
    let parts = numeral_parts word some.0 in
    let value : digits_value 10 word ≡ n = omega (arith, some.1) in
    sym (decimal-digits_value own word parts.0 parts.1 parts.2 (omega (arith, value))) ∙ ap decimal value

pub decimal_lacks : (byte n : ℕ) → is_ascii_digit byte ≡ false → n < cut → Lacks byte (decimal n)
decimal_lacks byte n other small = passing_lack is_ascii_digit byte (decimal n) other (digits_decimal own n small)

not_zero_digit : (b : Bool) (x : ℕ) → 48 < x → (b && eqb x 48) ≡ false
not_zero_digit true x above = grind (arith, tests)
not_zero_digit false x above = refl

no_leading_zero : (n : ℕ) → n < 2 ^ 64 → has_leading_zero (decimal n) ≡ false
no_leading_zero n small =
    ⊎_elim (λ low. ap has_leading_zero (decimal_digit n low))
    (λ high. not_zero_digit _ (get_or (decimal n) 0 0) (first_decimal n (omega (arith, high)) small)) (cases_lt n 10)

positive : (n : ℕ) → 0 < n → eqb n 0 ≡ false
positive n some = grind (arith, tests)

numeral_again : (n : ℕ) → n < 2 ^ 64 → is_numeral (decimal n) ≡ true
numeral_again n small =
    let some = positive (length (decimal n)) (decimal_nonempty n small) in
    let lead = no_leading_zero n small in
    let digits : list_all is_ascii_digit (decimal n) ≡ true = digits_decimal own n small in
    rw (some, lead, digits) refl

pub number_again : (n : ℕ) → n < cut → number_of (decimal n) ≡ Some n
unfolding number_of
number_again n small =
    rw (numeral_again n small) (ap (λ v. Some (min v cut)) (digits_value-decimal own n small) ∙ ap Some (omega arith))
