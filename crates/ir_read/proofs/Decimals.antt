-- The value of digits grows with each digit, so that what is too large stays so.
use Rattle.std.proofs.Common.{◌≡◌, ℕ, suc, ◌+◌, ◌-◌, ◌*◌, ◌^◌, ◌<◌, ◌≤◌, true, false, List, [], ◌∷◌, length, get_or, take, Option, Some, None, refl, ap, ◌∙◌, arith}
use Rattle.std.specs.Prelude.{nat_lt, if◌then◌else◌}
use Rattle.std.specs.Char.{is_ascii_digit, digit_value}
use Rattle.std.specs.Int.{IsInRange}
use Rattle.std.specs.List.{AllPass, list_all}
use Rattle.std.specs.Str.Parse.{AllDigits, digits_value}
use Rattle.std.proofs.lemmas.Bool.{le-ltb, lt-ltb}
use Rattle.std.proofs.lemmas.List.{take_all}
use Rattle.std.proofs.lemmas.Bool.Decides.{nat_tests}
use Rattle.std.proofs.lemmas.List.Sums.{AllPass-from_list_all}
use Rattle.std.proofs.lemmas.Str.{digit_value_digit}
use Rattle.std.proofs.lemmas.Str.Parse.{digits_value-take-le}
use Rattle.std.proofs.lemmas.Int.Digits.{digits_value-lt, digits_value_more}
use Rattle.std.proofs.Math.Nat.{pow-le-pow_right}

in_range : (byte : ℕ) → is_ascii_digit byte ≡ true → IsInRange 48 57 byte
in_range byte h = grind (arith, nat_tests)

pub value_more : (digits : List ℕ) (i : ℕ) → list_all is_ascii_digit digits ≡ true → i < length digits
    → digits_value 10 (take (i + 1) digits) ≡ digits_value 10 (take i digits) * 10 + (get_or digits i 0 - 48)
value_more digits i all lt =
    let digit : digit_value (get_or digits i 0) + 48 ≡ get_or digits i 0 = digit_value_digit (get_or digits i 0) (in_range (get_or digits i 0) (AllPass-from_list_all is_ascii_digit digits all i 0 lt)) in
    omega (arith, digits_value_more 10 digits i lt)

-- the number that the digits write, if it is below 2^64
abbrev pub below : ℕ → Option ℕ
below value = if nat_lt value (2 ^ 64) then Some value else None

pub value_too_large : (digits : List ℕ) (count : ℕ) → 2 ^ 64 ≤ digits_value 10 (take count digits) → None ≡ below (digits_value 10 digits)
value_too_large digits count large =
    let whole : nat_lt (digits_value 10 digits) (2 ^ 64) ≡ false = le-ltb _ _ (omega (arith, digits_value-take-le 10 digits count (omega arith))) in
    rw whole refl

pub value_whole : (digits : List ℕ) (count value : ℕ) → length digits ≤ count → value ≡ digits_value 10 (take count digits) → value < 2 ^ 64 → Some value ≡ below (digits_value 10 digits)
value_whole digits count value all is small =
    let whole : value ≡ digits_value 10 digits = is ∙ ap (digits_value 10) (take_all count digits all) in
    let fits : nat_lt (digits_value 10 digits) (2 ^ 64) ≡ true = lt-ltb _ _ (omega arith) in
    rw fits (ap Some whole)

all_digits : (digits : List ℕ) → AllPass is_ascii_digit digits → AllDigits 10 digits
all_digits [] all = tt
all_digits (digit ∷ digits) all =
    let range = in_range digit (all 0 0 (omega arith)) in
    let value : digit_value digit + 48 ≡ digit = digit_value_digit digit range in
    (omega (arith, value, range.1), all_digits digits (λ i other lt. all (suc i) other (omega (arith, lt))))

-- the number of nineteen digits is below 10^19
pub short_fits : (digits : List ℕ) → list_all is_ascii_digit digits ≡ true → length digits ≤ 19 → nat_lt (digits_value 10 digits) (2 ^ 64) ≡ true
short_fits digits all short =
    let low : digits_value 10 digits < 10 ^ length digits = digits_value-lt 10 digits (all_digits digits (AllPass-from_list_all is_ascii_digit digits all)) in
    let most : 10 ^ length digits ≤ 10 ^ 19 = pow-le-pow_right {n = 10} (omega arith) {i = length digits} {j = 19} short in
    lt-ltb _ _ (omega (arith, low, most))
