-- Sizes and alignments, and how those of parts make those of the whole. What is kept of a size is given: the whole
-- number, or what 64 bits hold of it.
use Rattle.std.specs.Prelude.{ℕ, ◌+◌, ◌-◌, ◌*◌, ◌%◌, ◌^◌, Bool, true, false, List, min, max, ◌==◌, if◌then◌else◌}
use Rattle.ir_layout.specs.declared.extent.Extent.{Extent}
use Rattle.ir_layout.specs.declared.extent.Overflow.{Overflow}
use Rattle.ir_layout.specs.declared.extent.Overflow.TheVariants as o

abbrev pub extent : ℕ → ℕ → Extent
extent size align = record { size = size; align = align }

-- what 64 bits hold of a size
abbrev pub kept : Overflow → ℕ → ℕ
kept o.Saturating size = min size (2 ^ 64 - 1)
kept o.Wrapping size = size % 2 ^ 64

abbrev pub kept_extent : Overflow → Extent → Extent
kept_extent overflow whole = extent (kept overflow whole.size) whole.align

abbrev pub kept_extents : Overflow → (List ℕ → Extent) → List ℕ → Extent
kept_extents overflow named name = kept_extent overflow (named name)

-- an integer or a pointer of so many bytes
abbrev pub word : ℕ → Extent
word bytes = extent bytes bytes

-- how many bytes an integer of so many bits takes
abbrev pub bytes_of : ℕ → ℕ
bytes_of bits = if bits == 16 then 2 else if bits == 32 then 4 else if bits == 64 then 8 else 1

-- a struct without fields
abbrev pub empty : Extent
empty = extent 0 1

-- so many elements
abbrev pub repeated : (ℕ → ℕ) → ℕ → Extent → Extent
repeated keep count element = extent (keep (count * element.size)) element.align

-- what is left out before the next place of the alignment
abbrev pub padding : ℕ → ℕ → ℕ
padding size align = (align - size % align) % align

-- where a field of the alignment lies, behind fields of so many bytes
unfoldable pub place : (ℕ → ℕ) → Bool → ℕ → ℕ → ℕ
place keep true size align = size
place keep false size align = keep (size + padding size align)

-- a packed struct has no padding
unfoldable pub with_field : (ℕ → ℕ) → Bool → Extent → Extent → Extent
with_field keep true fields field = extent (keep (fields.size + field.size)) 1
with_field keep false fields field =
    extent (keep (place keep false fields.size field.align + field.size)) (max fields.align field.align)

-- a struct of fields that take so much
unfoldable pub ended : (ℕ → ℕ) → Bool → Extent → Extent
ended keep true fields = fields
ended keep false fields = extent (keep (fields.size + padding fields.size fields.align)) fields.align
