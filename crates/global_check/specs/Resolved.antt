-- The types for which initial values stand.
use Rattle.std.specs.Prelude.{ℕ, Bool, true, false, ◌&&◌, ◌==◌, List, [], ◌∷◌, drop, bytes_eq, Option, Some, None}
use Rattle.ir_read.specs.declared.raw_type.TypeForm.{TypeForm}
use Rattle.ir_read.specs.declared.raw_type.TypeForm.TheVariants as forms
use Rattle.ir_read.specs.declared.terminal.Terminal.{Terminal}
use Rattle.ir_read.specs.declared.terminal.Terminal.TheVariants as t
use Rattle.ir_read.specs.Name.{name_of}
use Rattle.ir_read.specs.Node.{Told}
use Rattle.ir_read.specs.Shape.{count_of, element_of, form_of, struct_name, type_in}
use Rattle.ir_layout.specs.declared.extent.Overflow.TheVariants as o
use Rattle.struct_table.specs.Members.{Member, members_of}
use Rattle.struct_table.specs.StructTable.{Structs, extent, type_named}

-- ---- the same type

-- structs are the same by their names, and arrays by their numbers
abbrev pub same_text : Terminal → Terminal → List ℕ → List ℕ → Bool
same_text t.Local t.Local one other = bytes_eq (name_of t.Local one) (name_of t.Local other)
same_text t.Natural t.Natural one other = count_of one == count_of other
same_text _ _ one other = bytes_eq one other

abbrev pub same_node : Told → Told → Bool
same_node one other = same_text one.terminal other.terminal one.text other.text

abbrev pub is_empty : List Told → Bool
is_empty [] = true
is_empty (node ∷ nodes) = false

abbrev pub begins_with : List Told → Told → Bool
begins_with [] one = false
begins_with (other ∷ others) one = same_node one other

-- those so far, and those left
abbrev pub same_from : Bool → List Told → List Told → Bool
same_from same [] others = same && is_empty others
same_from same (one ∷ ones) others = same_from (same && begins_with others one) ones (drop 1 others)

abbrev pub same_types : List Told → List Told → Bool
same_types ones others = same_from true ones others

-- ---- fields

abbrev pub fields_by : TypeForm → Bool → Structs → List Told → Option (List Member)
fields_by forms.Struct false structs nodes = Some (members_of (extent structs o.Wrapping) nodes)
fields_by forms.Packed true structs nodes = Some (members_of (extent structs o.Wrapping) nodes)
fields_by _ _ structs nodes = None

abbrev pub own_fields : Structs → Bool → List Told → Option (List Member)
own_fields structs packed nodes = fields_by (form_of (type_in nodes)) packed structs nodes

abbrev pub fields_of_form : TypeForm → Structs → Bool → List Told → Option (List Member)
fields_of_form forms.Named structs packed nodes = own_fields structs packed (type_named structs (struct_name (type_in nodes)))
fields_of_form _ structs packed nodes = own_fields structs packed nodes

-- the fields of a struct that is packed or isn't, also of a named one; none where the type is no such struct
abbrev pub fields_of : Structs → Bool → List Told → Option (List Member)
fields_of structs packed nodes = fields_of_form (form_of (type_in nodes)) structs packed nodes

-- ---- single values

abbrev pub is_word_form : TypeForm → Bool
is_word_form (forms.Int bits) = true
is_word_form forms.Ptr = true
is_word_form _ = false

-- an integer, or a pointer
abbrev pub is_word : List Told → Bool
is_word nodes = is_word_form (form_of (type_in nodes))

abbrev pub is_byte_form : TypeForm → Bool
is_byte_form (forms.Int bits) = bits == 8
is_byte_form _ = false

abbrev pub takes_by : TypeForm → List Told → ℕ → Bool
takes_by (forms.Array count) nodes len = (count == len) && is_byte_form (form_of (element_of nodes))
takes_by _ nodes len = false

-- an array of just so many bytes
abbrev pub takes_string : List Told → ℕ → Bool
takes_string nodes len = takes_by (form_of (type_in nodes)) (type_in nodes) len
