-- What holds of layouts.
use Rattle.std.specs.Prelude.{◌≡◌, ℕ, ◌+◌, ◌%◌, ◌<◌, ◌≤◌, Bool, true, false, List, [], ◌∷◌}
use Rattle.ir_read.specs.Shape.{Fields, Nothing, Field}
use Rattle.ir_layout.specs.declared.extent.Extent.{Extent}
use Rattle.ir_layout.specs.Extent.{place, with_field}
use Rattle.ir_layout.specs.Layout.{layout}

-- the alignments that there are
pub data IsAlignment : ℕ → Type 0 where
  One : IsAlignment 1
  Two : IsAlignment 2
  Four : IsAlignment 4
  Eight : IsAlignment 8

-- a size is a multiple of its alignment
pub record IsExtent (extent : Extent) : Type 0 where
  pub alignment : IsAlignment extent.align
  pub multiple : extent.size % extent.align ≡ 0

abbrev pub AreExtents : (List ℕ → Extent) → Type 0
AreExtents named = (name : List ℕ) → IsExtent (named name)

-- where each field lies, and what it takes
abbrev pub places : (List ℕ → Extent) → Bool → Extent → Fields → List (ℕ × Extent)
places named packed before Nothing = []
places named packed before (Field shape fields) =
    (place (λ size. size) packed before.size (layout named shape).align, layout named shape)
    ∷ places named packed (with_field (λ size. size) packed before (layout named shape)) fields

-- the place is the first one of the alignment behind the end; in a packed struct it is the end
abbrev pub IsNext : Bool → ℕ → ℕ → ℕ → Type 0
IsNext true end at align = at ≡ end
IsNext false end at align = (end ≤ at) × (at < end + align) × (at % align ≡ 0)

-- each field lies at the next place behind the one before, and the size is the next place behind the last
abbrev pub LieBehind : Bool → ℕ → ℕ → List (ℕ × Extent) → ℕ → Type 0
LieBehind packed align end [] size = IsNext packed end size align
LieBehind packed align end (field ∷ fields) size =
    IsNext packed end field.0 field.1.align × LieBehind packed align (field.0 + field.1.size) fields size
