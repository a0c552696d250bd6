-- The way through the nodes of a type, from the first to the last, with what the types take that are open.
use Rattle.std.specs.Prelude.{ℕ, Bool, true, false, List, [], ◌∷◌}
use Rattle.ir_read.specs.declared.terminal.Terminal.{Terminal}
use Rattle.ir_read.specs.declared.terminal.Terminal.TheVariants as t
use Rattle.ir_read.specs.Name.{name_of}
use Rattle.ir_read.specs.Node.{Told}
use Rattle.ir_read.specs.Shape.{bits_of, count_of}
use Rattle.ir_layout.specs.declared.extent.Extent.{Extent}
use Rattle.ir_layout.specs.declared.frame.Form.{Form}
use Rattle.ir_layout.specs.declared.frame.Form.TheVariants as forms
use Rattle.ir_layout.specs.declared.frame.Frame.{Frame}
use Rattle.ir_layout.specs.Extent.{bytes_of, empty, ended, repeated, with_field, word}

-- ---- an open type

abbrev pub frame : Form → Extent → Frame
frame form extent = record { form = form; extent = extent }

-- the form of a struct with its fields
abbrev pub struct_form : Bool → Form
struct_form true = forms.Packed
struct_form false = forms.Plain

abbrev pub extent_with : (ℕ → ℕ) → Form → Extent → Extent → Extent
extent_with keep forms.Whole before part = part
extent_with keep (forms.Array count) before part = repeated keep count part
extent_with keep forms.Plain before part = with_field keep false before part
extent_with keep forms.Packed before part = with_field keep true before part

-- the same with one more part
abbrev pub with_part : (ℕ → ℕ) → Extent → Frame → Frame
with_part keep part open_type = frame open_type.form (extent_with keep open_type.form open_type.extent part)

abbrev pub closed_extent : (ℕ → ℕ) → Form → Extent → Extent
closed_extent keep forms.Plain parts = ended keep false parts
closed_extent keep _ parts = parts

-- ---- all open types

pub record Walk : Type 0 where
  pub top : Frame
  pub below : List Frame
  -- a `<` came, and its `{` is next
  pub packed : Bool

abbrev pub walk : Frame → List Frame → Bool → Walk
walk top below packed = record { top = top; below = below; packed = packed }

abbrev pub begun : Walk
begun = walk (frame forms.Whole empty) [] false

-- a type without parts
abbrev pub put : (ℕ → ℕ) → Extent → Walk → Walk
put keep extent at = walk (with_part keep extent at.top) at.below at.packed

abbrev pub opened : Form → Walk → Walk
opened form at = walk (frame form empty) (at.top ∷ at.below) false

abbrev pub put_below : (ℕ → ℕ) → Extent → List Frame → Bool → Walk
put_below keep extent [] packed = walk (frame forms.Whole extent) [] packed
put_below keep extent (open_type ∷ below) packed = walk (with_part keep extent open_type) below packed

-- the type that was opened last is a part of the one before
abbrev pub closed : (ℕ → ℕ) → Walk → Walk
closed keep at = put_below keep (closed_extent keep at.top.form at.top.extent) at.below at.packed

abbrev pub stepped_by : (ℕ → ℕ) → (List ℕ → Extent) → Terminal → List ℕ → Walk → Walk
stepped_by keep named t.Int text at = put keep (word (bytes_of (bits_of text))) at
stepped_by keep named t.Ptr text at = put keep (word 8) at
stepped_by keep named t.Void text at = put keep empty at
stepped_by keep named t.Local text at = put keep (named (name_of t.Local text)) at
stepped_by keep named t.Natural text at = opened (forms.Array (count_of text)) at
stepped_by keep named t.Less text at = walk at.top at.below true
stepped_by keep named t.LeftBrace text at = opened (struct_form at.packed) at
stepped_by keep named t.RightBrace text at = closed keep at
stepped_by keep named t.RightBracket text at = closed keep at
stepped_by keep named _ text at = at

unfoldable pub stepped : (ℕ → ℕ) → (List ℕ → Extent) → Told → Walk → Walk
stepped keep named node at = stepped_by keep named node.terminal node.text at

abbrev pub walked : (ℕ → ℕ) → (List ℕ → Extent) → List Told → Walk → Walk
walked keep named [] at = at
walked keep named (node ∷ nodes) at = walked keep named nodes (stepped keep named node at)

-- what a type takes, by its nodes
abbrev pub extent_by : (ℕ → ℕ) → (List ℕ → Extent) → List Told → Extent
extent_by keep named nodes = (walked keep named nodes begun).top.extent
