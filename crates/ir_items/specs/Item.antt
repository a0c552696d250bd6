-- What the items of a module are, and what they have. Of each item the first node is given and those behind it. What an
-- item lacks stands for its first node, so that all is said of every list of nodes.
use Rattle.std.specs.Prelude.{ℕ, ◌+◌, ◌-◌, Bool, true, false, List, [], ◌∷◌, length, take, drop, get_or, bytes_eq, codes, Option, if◌then◌else◌}
use Rattle.std.specs.List.{prefix_len, slice_get}
use Rattle.ir_read.specs.declared.terminal.Terminal.{Terminal}
use Rattle.ir_read.specs.declared.terminal.Terminal.TheVariants as t
use Rattle.ir_read.specs.Node.{Told}
use Rattle.ir_items.specs.declared.item.ItemForm.{ItemForm}
use Rattle.ir_items.specs.declared.item.ItemForm.TheVariants as forms
use Rattle.ir_items.specs.declared.segment.Cut.TheVariants as cuts
use Rattle.ir_items.specs.Segment.{Segment, segments_of}

-- `%name = type ..`, `@name = global ..`, `declare ..` or `define ..`
abbrev pub form_at : Terminal → ItemForm
form_at t.Local = forms.Struct
form_at t.Global = forms.Global
form_at t.OddGlobal = forms.Global
form_at t.KeyDeclare = forms.Declare
form_at _ = forms.Define

abbrev pub form_of : Segment → ItemForm
form_of item = form_at item.first.terminal

abbrev pub is_function : ItemForm → Bool
is_function forms.Declare = true
is_function forms.Define = true
is_function _ = false

-- the node at the place behind the first one
abbrev pub node_at : Segment → ℕ → Told
node_at item place = get_or item.rest place item.first

-- a struct and a global begin with their name; a function has it behind its result's type
abbrev pub name_of : Segment → Told
name_of item = if is_function (form_of item) then node_at item 1 else item.first

-- ---- structs and globals

-- what stands behind `=` and the word: a struct's type, or a global's type and what it holds
abbrev pub value_of : Segment → List Told
value_of item = drop 2 item.rest

-- whether it is a `constant` and no `global`
abbrev pub is_constant : Segment → Bool
is_constant item = bytes_eq (node_at item 1).text (codes "constant")

-- ---- functions

abbrev pub result_type_of : Segment → Told
result_type_of item = node_at item 0

-- a type or a name between the brackets
abbrev pub is_parameter_node : Told → Bool
is_parameter_node node = is_listed node.terminal where
  is_listed : Terminal → Bool
  is_listed t.RightParen = false
  is_listed t.Ellipsis = false
  is_listed _ = true

-- what stands behind the opening bracket
abbrev pub signature_of : Segment → List Told
signature_of item = drop 3 item.rest

abbrev pub parameters_len : Segment → ℕ
parameters_len item = prefix_len is_parameter_node (signature_of item)

-- the type of a parameter, and its name where it has one
pub record Parameter : Type 0 where
  pub value_type : Told
  pub name : Option Told

abbrev pub parameter_of : Segment → Parameter
parameter_of segment = record { value_type = segment.first; name = slice_get segment.rest 0 }

abbrev pub parameters_in : List Segment → List Parameter
parameters_in [] = []
parameters_in (segment ∷ segments) = parameter_of segment ∷ parameters_in segments

abbrev pub parameters_of : Segment → List Parameter
parameters_of item = parameters_in (segments_of cuts.Parameters (take (parameters_len item) (signature_of item)))

abbrev pub is_ellipsis : Terminal → Bool
is_ellipsis t.Ellipsis = true
is_ellipsis _ = false

-- whether `...` stands behind the parameters
abbrev pub is_variadic : Segment → Bool
is_variadic item = is_ellipsis (get_or (signature_of item) (parameters_len item) item.first).terminal

abbrev pub before_last : List Told → List Told
before_last nodes = take (length nodes - 1) nodes

-- what stands between the brackets of a defined function's body
abbrev pub body_of : Segment → List Told
body_of item = before_last (drop (parameters_len item + 2) (signature_of item))
