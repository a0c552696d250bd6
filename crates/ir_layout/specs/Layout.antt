-- The size and the alignment of a type in memory, by those of named structs.
use Rattle.std.specs.Prelude.{ℕ, Bool, List}
use Rattle.ir_read.specs.Shape.{Shape, Int, Ptr, Void, Array, Named, Struct, Fields, Nothing, Field}
use Rattle.ir_layout.specs.declared.extent.Extent.{Extent}
use Rattle.ir_layout.specs.Extent.{bytes_of, empty, ended, repeated, with_field, word}

abbrev mutual
  pub layout_by : (ℕ → ℕ) → (List ℕ → Extent) → Shape → Extent
  layout_by keep named (Int bits) = word (bytes_of bits)
  layout_by keep named Ptr = word 8
  layout_by keep named Void = empty
  layout_by keep named (Array count shape) = repeated keep count (layout_by keep named shape)
  layout_by keep named (Named name) = named name
  layout_by keep named (Struct packed fields) = ended keep packed (fields_by keep named packed empty fields)

  -- what the fields take, behind those before them
  pub fields_by : (ℕ → ℕ) → (List ℕ → Extent) → Bool → Extent → Fields → Extent
  fields_by keep named packed before Nothing = before
  fields_by keep named packed before (Field shape fields) =
      fields_by keep named packed (with_field keep packed before (layout_by keep named shape)) fields

abbrev pub layout : (List ℕ → Extent) → Shape → Extent
layout named shape = layout_by (λ size. size) named shape
