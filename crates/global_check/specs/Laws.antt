-- What the laws say of globals.
use Rattle.std.specs.Prelude.{◌≡◌, ℕ, ◌+◌, ◌*◌, ◌%◌, ◌≤◌, List, [], ◌∷◌, None, length, map, sum}
use Rattle.ir_types.specs.declared.«module».GlobalVar.{GlobalVar}
use Rattle.global_check.specs.declared.globals.CheckedGlobals.{CheckedGlobals}
use Rattle.global_check.specs.declared.placed.PlacedGlobals.{PlacedGlobals}
use Rattle.global_check.specs.Placed.{first_address, most_bytes}

-- the first one lies at the first address, as the next one would where there is none
abbrev pub BeginsFirst : List ℕ → ℕ → Type 0
BeginsFirst [] next = next ≡ first_address
BeginsFirst (address ∷ addresses) next = address ≡ first_address

-- There are as many sizes as addresses. Each address is a multiple of 16, and no less than the least one; at least 16
-- bytes lie between an object and the next one, and between the last one and the end.
abbrev pub LieApart : ℕ → List ℕ → List ℕ → ℕ → Type 0
LieApart least [] [] end = least ≤ end
LieApart least (address ∷ addresses) (size ∷ sizes) end =
    (least ≤ address) × (address % 16 ≡ 0) × LieApart (address + size + 16) addresses sizes end
LieApart least _ _ end = ⊥

pub record AreApart (placed : PlacedGlobals) : Type 0 where
  pub begin : BeginsFirst placed.addresses placed.next
  pub apart : LieApart first_address placed.addresses placed.sizes placed.next
  -- each takes at most 31 bytes beside its own
  pub near : placed.next ≤ first_address + most_bytes + 31 * length placed.addresses
  pub small : sum placed.sizes ≤ most_bytes

abbrev pub HasItsSize : GlobalVar → Type 0
HasItsSize global = length global.image ≡ global.size

-- the globals that were checked lie where they were placed, and what is wrong with places is wrong with them
pub record AreThosePlaced (placed : PlacedGlobals) (checked : CheckedGlobals) : Type 0 where
  pub addresses : map (λ global. global.base) checked.globals ≡ placed.addresses
  pub sizes : map (λ global. global.size) checked.globals ≡ placed.sizes
  pub faults : checked.first ≡ None → placed.first ≡ None
