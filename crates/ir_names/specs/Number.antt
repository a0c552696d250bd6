-- The number that digits spell.
use Rattle.std.specs.Prelude.{ℕ, ◌+◌, ◌-◌, ◌*◌, ◌^◌, min, nat_lt, List, fold, length, slice_index, take, if◌then◌else◌}

-- what a digit stands for
abbrev pub digit_of : ℕ → ℕ
digit_of byte = min (byte - 48) 9

abbrev pub value_of : List ℕ → ℕ
value_of digits = fold (λ number byte. 10 * number + digit_of byte) 0 digits

-- the digit with so many behind it, and 0 where there are fewer
abbrev pub digit_at : List ℕ → ℕ → ℕ
digit_at digits behind =
    if nat_lt behind (length digits) then digit_of (slice_index digits (length digits - 1 - behind)) else 0

-- the number that the digits spell without the last ones
abbrev pub front_of : List ℕ → ℕ → ℕ
front_of digits behind = value_of (take (length digits - behind) digits)

-- how far a number is ahead of another, counted from 2^64 behind it to 2^64 ahead of it
abbrev pub lead_of : ℕ → ℕ → ℕ
lead_of number other = min (number + 2 ^ 64 - other) (2 ^ 65)
