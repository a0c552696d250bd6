-- Numbers: decimal digits without a leading zero, in words of their own.
use Rattle.std.specs.Prelude.{ℕ, ◌^◌, Bool, ◌==◌, ◌&&◌, not, nat_lt, List, [], ◌∷◌, length, slice_index, min, Option, Some, None, if◌then◌else◌, option_and_then, option_map}
use Rattle.std.specs.List.{list_all}
use Rattle.std.specs.Char.{is_ascii_digit}
use Rattle.std.specs.Str.Parse.{digits_value}

-- a zero in front of other digits
abbrev pub has_leading_zero : List ℕ → Bool
has_leading_zero word = nat_lt 1 (length word) && slice_index word 0 == 48

-- decimal digits without a leading zero
abbrev pub is_numeral : List ℕ → Bool
is_numeral word = not (length word == 0) && not (has_leading_zero word) && list_all is_ascii_digit word

-- one past the greatest number of 64 bits, which is above every bound
abbrev pub cut : ℕ
cut = 2 ^ 64

-- the number that a word spells, where it spells one; what is above `cut` is cut to it
unfoldable pub number_of : List ℕ → Option ℕ
number_of word = if is_numeral word then Some (min (digits_value 10 word) cut) else None

-- the number of a single word
abbrev pub one_number : List (List ℕ) → Option ℕ
one_number (word ∷ []) = number_of word
one_number _ = None

abbrev pub two_numbers : List (List ℕ) → Option (ℕ × ℕ)
two_numbers [] = None
two_numbers (word ∷ words) =
    option_and_then (λ first. option_map (λ second. (first, second)) (one_number words)) (number_of word)

abbrev pub three_numbers : List (List ℕ) → Option (ℕ × ℕ × ℕ)
three_numbers [] = None
three_numbers (word ∷ words) =
    option_and_then (λ first. option_map (λ others. (first, others.0, others.1)) (two_numbers words)) (number_of word)
