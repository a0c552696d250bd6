-- The way through the nodes that spell a type gives the layout of the type.
use Rattle.std.proofs.Common.{◌≡◌, ℕ, Bool, true, false, List, [], ◌∷◌, ◌++◌, refl, ap, ◌∙◌, sym, append_assoc, append-nil}
use Rattle.ir_read.specs.declared.terminal.Terminal.TheVariants as t
use Rattle.ir_read.specs.Node.{Told}
use Rattle.ir_read.specs.Shape.{Shape, Fields, Spells, Integer, Pointer, Nowhere, Name, Row, Plain, Packed, AreSpelled, Ends, Goes}
use Rattle.ir_layout.specs.declared.extent.Extent.{Extent}
use Rattle.ir_layout.specs.declared.frame.Form.TheVariants as forms
use Rattle.ir_layout.specs.declared.frame.Frame.{Frame}
use Rattle.ir_layout.specs.Extent.{empty, ended}
use Rattle.ir_layout.specs.Layout.{fields_by, layout_by}
use Rattle.ir_layout.specs.Walk.{extent_by, frame, stepped, struct_form, walk, walked, with_part}

mutual
  unfolding stepped ended

  pub walked_type : (keep : ℕ → ℕ) (named : List ℕ → Extent) (shape : Shape) (front rest : List Told) (top : Frame) (below : List Frame) →
      Spells shape front →
      walked keep named (front ++ rest) (walk top below false)
      ≡ walked keep named rest (walk (with_part keep (layout_by keep named shape) top) below false)
  walked_type keep named _ _ rest top below (Integer is) = rw is refl
  walked_type keep named _ _ rest top below (Pointer is) = rw is refl
  walked_type keep named _ _ rest top below (Nowhere is) = rw is refl
  walked_type keep named _ _ rest top below (Name is) = rw is refl
  walked_type keep named _ _ rest top below (Row right {shape = shape} {nodes = nodes} left_is count_is key_is right_is inner) =
      rw (left_is, count_is, key_is, append_assoc nodes (right ∷ []) rest, walked_type keep named shape nodes (right ∷ rest) _ _ inner, right_is) refl
  walked_type keep named _ _ rest top below (Plain right {fields = fields} {nodes = nodes} left_is right_is inner) =
      rw (left_is, append_assoc nodes (right ∷ []) rest, walked_fields keep named false fields nodes (right ∷ rest) _ _ inner, right_is) refl
  walked_type keep named _ _ rest top below (Packed right greater {fields = fields} {nodes = nodes} less_is left_is right_is greater_is inner) =
      rw (
        less_is,
        left_is,
        append_assoc nodes (right ∷ greater ∷ []) rest,
        walked_fields keep named true fields nodes (right ∷ greater ∷ rest) _ _ inner,
        right_is,
        greater_is,
      ) refl

  pub walked_fields : (keep : ℕ → ℕ) (named : List ℕ → Extent) (packed : Bool) (fields : Fields) (front rest : List Told) (before : Extent)
      (below : List Frame) → AreSpelled fields front →
      walked keep named (front ++ rest) (walk (frame (struct_form packed) before) below false)
      ≡ walked keep named rest (walk (frame (struct_form packed) (fields_by keep named packed before fields)) below false)
  walked_fields keep named packed _ _ rest before below Ends = refl
  walked_fields keep named true _ _ rest before below (Goes {shape = shape} {fields = fields} {front = front} {rest = others} first more) =
      rw (
        append_assoc front others rest,
        walked_type keep named shape front (others ++ rest) _ below first,
        walked_fields keep named true fields others rest _ below more,
      ) refl
  walked_fields keep named false _ _ rest before below (Goes {shape = shape} {fields = fields} {front = front} {rest = others} first more) =
      rw (
        append_assoc front others rest,
        walked_type keep named shape front (others ++ rest) _ below first,
        walked_fields keep named false fields others rest _ below more,
      ) refl

pub walked_whole : (keep : ℕ → ℕ) (named : List ℕ → Extent) (shape : Shape) (nodes : List Told) → Spells shape nodes →
    extent_by keep named nodes ≡ layout_by keep named shape
walked_whole keep named shape nodes spells =
    ap (extent_by keep named) (sym (append-nil nodes))
    ∙ ap (λ end. end.top.extent) (walked_type keep named shape nodes [] (frame forms.Whole empty) [] spells)
