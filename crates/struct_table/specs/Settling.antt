-- The way to what structs take: one after another is settled, where it can be.
use Rattle.std.specs.Prelude.{ℕ, zero, suc, ◌+◌, Bool, ◌&&◌, List, [], ◌∷◌, length, get_or, set, nat_lt, is_none, Option, Some, None, if◌then◌else◌}
use Rattle.ir_read.specs.Node.{Told}
use Rattle.ir_layout.specs.declared.extent.Extent.{Extent}
use Rattle.struct_table.specs.Rounds.{next_extent}

-- a struct of which nothing is known
abbrev pub is_open : List (Option Extent) → ℕ → Bool
is_open known number = nat_lt number (length known) && is_none (get_or known number None)

abbrev pub with_extent : List (Option Extent) → ℕ → Option Extent → List (Option Extent)
with_extent known number None = known
with_extent known number (Some extent) = set known number (Some extent)

-- once a struct is settled, where it is open and can be
abbrev pub settle : (ℕ → ℕ) → List (List ℕ) → List (List Told) → List (Option Extent) → ℕ → List (Option Extent)
settle keep names types known number =
    if is_open known number
    then with_extent known number (next_extent keep names known (get_or types number []))
    else known

-- the structs below the number, in order
abbrev pub settle_below : (ℕ → ℕ) → List (List ℕ) → List (List Told) → List (Option Extent) → ℕ → List (Option Extent)
settle_below keep names types known zero = known
settle_below keep names types known (suc number) =
    settle keep names types (settle_below keep names types known number) number

abbrev pub one_open : Option Extent → ℕ
one_open None = 1
one_open (Some extent) = 0

-- how many are open
abbrev pub open_count : List (Option Extent) → ℕ
open_count [] = 0
open_count (extent ∷ known) = one_open extent + open_count known
