-- What holds of layouts.
use Rattle.std.proofs.Common.{◌≡◌, ℕ, ◌+◌, ◌%◌, Bool, true, false, List, [], ◌∷◌, refl, ap, ◌∙◌, sym, subst, max, arith}
use Rattle.std.proofs.Math.Nat.{mod-one, mod_self}
use Rattle.ir_read.specs.Shape.{Shape, Int, Ptr, Void, Array, Named, Struct, Fields, Nothing, Field, Spells}
use Rattle.ir_read.specs.Node.{Told}
use Rattle.ir_layout.specs.declared.extent.Extent.{Extent}
use Rattle.ir_layout.specs.declared.extent.Overflow.{Overflow}
use Rattle.ir_layout.specs.Extent.{bytes_of, empty, ended, extent, kept, kept_extent, kept_extents, padding, place, repeated, with_field}
use Rattle.ir_layout.specs.Laws.{AreExtents, IsAlignment, One, Two, Four, Eight, IsExtent, IsNext, LieBehind, places}
use Rattle.ir_layout.specs.Layout.{fields_by, layout, layout_by}
use Rattle.ir_layout.specs.Walk.{extent_by}
use Rattle.ir_layout.proofs.Walks.{walked_whole}
use Rattle.ir_layout.proofs.Numbers.{bytes_alignment, kept_alignment, kept_padded, kept_product, kept_sum, kept_zero, max_alignment, next_place, repeated_multiple}

abbrev whole : ℕ → ℕ
whole size = size

-- ---- sizes are multiples of alignments

field_alignment : (packed : Bool) (before field : Extent) → IsAlignment before.align → IsAlignment field.align →
    IsAlignment (with_field whole packed before field).align
unfolding with_field
field_alignment true before field first second = One
field_alignment false before field first second = max_alignment before.align field.align first second

word_extent : (bytes : ℕ) → IsAlignment bytes → IsExtent (extent bytes bytes)
word_extent bytes is = record { alignment = is; multiple = mod_self bytes }

packed_align : (named : List ℕ → Extent) (before : Extent) (fields : Fields) → before.align ≡ 1 → (fields_by whole named true before fields).align ≡ 1
unfolding with_field
packed_align named before Nothing is = is
packed_align named before (Field shape fields) is = packed_align named (with_field whole true before (layout named shape)) fields refl

ended_extent : (packed : Bool) (fields : Extent) → IsAlignment fields.align → (packed ≡ true → fields.align ≡ 1) → IsExtent (ended whole packed fields)
unfolding ended
ended_extent true fields is one = record { alignment = is; multiple = rw (one refl) (mod-one fields.size) }
ended_extent false fields is one = record { alignment = is; multiple = (next_place fields.size fields.align is).2 }

align_is_one : (named : List ℕ → Extent) (packed : Bool) (fields : Fields) → packed ≡ true → (fields_by whole named packed empty fields).align ≡ 1
align_is_one named true fields is = packed_align named empty fields refl
align_is_one named false fields is = cc

mutual
  pub layout_extent : (named : List ℕ → Extent) → AreExtents named → (shape : Shape) → IsExtent (layout named shape)
  layout_extent named are (Int bits) = word_extent (bytes_of bits) (bytes_alignment bits)
  layout_extent named are Ptr = word_extent 8 Eight
  layout_extent named are Void = record { alignment = One; multiple = refl }
  layout_extent named are (Array count shape) =
      let element = layout_extent named are shape in
      record {
        alignment = element.alignment;
        multiple = repeated_multiple count (layout named shape).size (layout named shape).align element.multiple;
      }
  layout_extent named are (Named name) = are name
  layout_extent named are (Struct packed fields) =
      ended_extent packed (fields_by whole named packed empty fields) (fields_alignment named are packed empty One fields)
      (align_is_one named packed fields)

  pub fields_alignment : (named : List ℕ → Extent) → AreExtents named → (packed : Bool) (before : Extent) → IsAlignment before.align →
      (fields : Fields) → IsAlignment (fields_by whole named packed before fields).align
  fields_alignment named are packed before is Nothing = is
  fields_alignment named are packed before is (Field shape fields) =
      fields_alignment named are packed (with_field whole packed before (layout named shape))
      (field_alignment packed before (layout named shape) is (layout_extent named are shape).alignment) fields

-- ---- where fields lie

next_is : (packed : Bool) (end align : ℕ) → IsAlignment align → IsNext packed end (place whole packed end align) align
unfolding place
next_is true end align is = refl
next_is false end align is = next_place end align is

end_is : (packed : Bool) (fields : Extent) → IsAlignment fields.align → IsNext packed fields.size (ended whole packed fields).size fields.align
unfolding ended
end_is true fields is = refl
end_is false fields is = next_place fields.size fields.align is

behind_is : (packed : Bool) (before field : Extent) → (with_field whole packed before field).size ≡ place whole packed before.size field.align + field.size
unfolding with_field place
behind_is true before field = refl
behind_is false before field = refl

pub fields_lie : (named : List ℕ → Extent) → AreExtents named → (packed : Bool) (before : Extent) → IsAlignment before.align → (fields : Fields) →
    LieBehind packed (fields_by whole named packed before fields).align before.size (places named packed before fields)
    (ended whole packed (fields_by whole named packed before fields)).size
fields_lie named are packed before is Nothing = end_is packed before is
fields_lie named are packed before is (Field shape fields) =
    let field = layout named shape in
    let after = with_field whole packed before field in
    let alignment = (layout_extent named are shape).alignment in (
      next_is packed before.size field.align alignment,
      subst (λ end. LieBehind packed (fields_by whole named packed after fields).align end (places named packed after fields)
          (ended whole packed (fields_by whole named packed after fields)).size) (behind_is packed before field)
          (fields_lie named are packed after (field_alignment packed before field is alignment) fields),
    )

ended_align : (packed : Bool) (fields : Extent) → (ended whole packed fields).align ≡ fields.align
unfolding ended
ended_align true fields = refl
ended_align false fields = refl

pub struct_lies : (named : List ℕ → Extent) → AreExtents named → (packed : Bool) (fields : Fields) →
    LieBehind packed (layout named (Struct packed fields)).align 0 (places named packed empty fields) (layout named (Struct packed fields)).size
struct_lies named are packed fields =
    rw (ended_align packed (fields_by whole named packed empty fields)) (fields_lie named are packed empty One fields)

-- ---- what 64 bits hold

kept_field : (overflow : Overflow) (packed : Bool) (before field : Extent) → IsAlignment field.align →
    with_field (kept overflow) packed (kept_extent overflow before) (kept_extent overflow field)
    ≡ kept_extent overflow (with_field whole packed before field)
unfolding with_field place
kept_field overflow true before field is = ap (λ size. extent size 1) (kept_sum overflow before.size field.size)
kept_field overflow false before field is =
    ap (λ size. extent size (max before.align field.align))
    (ap (λ at. kept overflow (at + kept overflow field.size)) (kept_padded overflow before.size field.align is)
    ∙ kept_sum overflow (before.size + padding before.size field.align) field.size)

kept_ended : (overflow : Overflow) (packed : Bool) (fields : Extent) → IsAlignment fields.align →
    ended (kept overflow) packed (kept_extent overflow fields) ≡ kept_extent overflow (ended whole packed fields)
unfolding ended
kept_ended overflow true fields is = refl
kept_ended overflow false fields is = ap (λ size. extent size fields.align) (kept_padded overflow fields.size fields.align is)

kept_empty : (overflow : Overflow) → kept_extent overflow empty ≡ empty
kept_empty overflow = ap (λ size. extent size 1) (kept_zero overflow)

kept_word : (overflow : Overflow) (bytes : ℕ) → IsAlignment bytes → extent bytes bytes ≡ kept_extent overflow (extent bytes bytes)
kept_word overflow bytes is = ap (λ size. extent size bytes) (sym (kept_alignment overflow bytes is))

mutual
  pub kept_layout : (overflow : Overflow) (named : List ℕ → Extent) → AreExtents named → (shape : Shape) →
      layout_by (kept overflow) (kept_extents overflow named) shape ≡ kept_extent overflow (layout named shape)
  kept_layout overflow named are (Int bits) = kept_word overflow (bytes_of bits) (bytes_alignment bits)
  kept_layout overflow named are Ptr = kept_word overflow 8 Eight
  kept_layout overflow named are Void = sym (kept_empty overflow)
  kept_layout overflow named are (Array count shape) =
      ap (repeated (kept overflow) count) (kept_layout overflow named are shape)
      ∙ ap (λ size. extent size (layout named shape).align) (kept_product overflow count (layout named shape).size)
  kept_layout overflow named are (Named name) = refl
  kept_layout overflow named are (Struct packed fields) =
      ap (λ before. ended (kept overflow) packed (fields_by (kept overflow) (kept_extents overflow named) packed before fields)) (sym (kept_empty overflow))
      ∙ ap (ended (kept overflow) packed) (kept_fields overflow named are packed empty One fields)
      ∙ kept_ended overflow packed (fields_by whole named packed empty fields) (fields_alignment named are packed empty One fields)

  pub kept_fields : (overflow : Overflow) (named : List ℕ → Extent) → AreExtents named → (packed : Bool) (before : Extent) →
      IsAlignment before.align → (fields : Fields) →
      fields_by (kept overflow) (kept_extents overflow named) packed (kept_extent overflow before) fields
      ≡ kept_extent overflow (fields_by whole named packed before fields)
  kept_fields overflow named are packed before is Nothing = refl
  kept_fields overflow named are packed before is (Field shape fields) =
      let alignment = (layout_extent named are shape).alignment in
      ap (λ part. fields_by (kept overflow) (kept_extents overflow named) packed
      (with_field (kept overflow) packed (kept_extent overflow before) part) fields) (kept_layout overflow named are shape)
      ∙ ap (λ parts. fields_by (kept overflow) (kept_extents overflow named) packed parts fields)
      (kept_field overflow packed before (layout named shape) alignment)
      ∙ kept_fields overflow named are packed (with_field whole packed before (layout named shape))
      (field_alignment packed before (layout named shape) is alignment) fields

-- by the nodes that spell the type
pub measured : (overflow : Overflow) (named : List ℕ → Extent) (shape : Shape) (nodes : List Told) → AreExtents named → Spells shape nodes →
    extent_by (kept overflow) (kept_extents overflow named) nodes ≡ kept_extent overflow (layout named shape)
measured overflow named shape nodes are spells =
    walked_whole (kept overflow) (kept_extents overflow named) shape nodes spells ∙ kept_layout overflow named are shape
