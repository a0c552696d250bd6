-- An open list of initial values: what its next value is for.
use Rattle.std.specs.Prelude.{ℕ, ◌+◌, ◌*◌, ◌%◌, ◌^◌, ◌==◌, nat_lt, Bool, true, false, List, [], length, slice_get, is_some, Option, Some, None, if◌then◌else◌}
use Rattle.ir_read.specs.declared.raw_type.TypeForm.{TypeForm}
use Rattle.ir_read.specs.declared.raw_type.TypeForm.TheVariants as forms
use Rattle.ir_read.specs.Node.{Told}
use Rattle.ir_read.specs.Shape.{element_of, form_of, type_in}
use Rattle.ir_layout.specs.declared.extent.Overflow.TheVariants as o
use Rattle.ir_layout.specs.Extent.{kept}
use Rattle.ir_layout.specs.Walk.{extent_by}
use Rattle.module_fault.specs.declared.cause.Cause.{Cause}
use Rattle.module_fault.specs.declared.cause.Cause.TheVariants.{TypeMismatch}
use Rattle.module_fault.specs.Cause.{unless}
use Rattle.struct_table.specs.Members.{Member}
use Rattle.struct_table.specs.StructTable.{Structs, extent}
use Rattle.global_check.specs.Placed.{capped}
use Rattle.global_check.specs.Resolved.{fields_of, same_types}

pub record InitialList : Type 0 where
  -- where the array or struct lies
  pub place : ℕ
  -- of an array the nodes of an element, and how many bytes one takes
  pub is_array : Bool
  pub element : List Told
  pub size : ℕ
  -- of a struct its fields
  pub members : List Member
  -- how many values are due, and how many there were
  pub count : ℕ
  pub next : ℕ

-- ---- the list that begins

abbrev pub no_list : ℕ → List Told → InitialList
no_list place nodes = record { place = place; is_array = false; element = nodes; size = 0; members = []; count = 0; next = 0 }

abbrev pub array_list : ℕ → List Told → ℕ → ℕ → InitialList
array_list place element size count =
    record { place = place; is_array = true; element = element; size = size; members = []; count = count; next = 0 }

abbrev pub struct_list : ℕ → List Told → List Member → InitialList
struct_list place nodes members = record {
  place = place;
  is_array = false;
  element = nodes;
  size = 0;
  members = members;
  count = length members;
  next = 0;
}

abbrev pub array_size : Structs → List Told → ℕ
array_size structs element = (extent_by (kept o.Wrapping) (extent structs o.Wrapping) element).size

abbrev pub array_by : TypeForm → Structs → ℕ → List Told → InitialList
array_by (forms.Array count) structs place nodes =
    array_list place (element_of nodes) (array_size structs (element_of nodes)) count
array_by _ structs place nodes = no_list place nodes

-- `[ .. ]` for a value of the type
abbrev pub array_for : Structs → Member → InitialList
array_for structs due = array_by (form_of (type_in due.nodes)) structs due.place (type_in due.nodes)

abbrev pub struct_with : Member → Option (List Member) → InitialList
struct_with due (Some members) = struct_list due.place due.nodes members
struct_with due None = no_list due.place due.nodes

-- `{ .. }` or `<{ .. }>` for a value of the type
abbrev pub struct_for : Structs → Bool → Member → InitialList
struct_for structs packed due = struct_with due (fields_of structs packed due.nodes)

abbrev pub is_array_form : TypeForm → Bool
is_array_form (forms.Array count) = true
is_array_form _ = false

abbrev pub is_array : List Told → Bool
is_array nodes = is_array_form (form_of (type_in nodes))

-- what is wrong with a list for another type
abbrev pub array_cause : Member → Option Cause
array_cause due = unless (is_array due.nodes) TypeMismatch

abbrev pub struct_cause : Structs → Bool → Member → Option Cause
struct_cause structs packed due = unless (is_some (fields_of structs packed due.nodes)) TypeMismatch

-- ---- its values

abbrev pub array_part_at : ℕ → ℕ → ℕ → List Told → Option Member
array_part_at next count size element =
    if nat_lt next count then Some (record { place = (next * size) % 2 ^ 64; nodes = element }) else None

-- what the next value is for, from where the list lies
abbrev pub part_of : InitialList → Option Member
part_of list = if list.is_array then array_part_at list.next list.count list.size list.element else slice_get list.members list.next

abbrev pub place_with : ℕ → Option Member → ℕ
place_with place None = place
place_with place (Some part) = (place + part.place) % 2 ^ 64

-- the type that is written before a value must be that of the part
abbrev pub part_cause : List Told → Option Member → Option Cause
part_cause written None = Some TypeMismatch
part_cause written (Some part) = unless (same_types written part.nodes) TypeMismatch

abbrev pub behind_part : InitialList → InitialList
behind_part list = record {
  place = list.place;
  is_array = list.is_array;
  element = list.element;
  size = list.size;
  members = list.members;
  count = list.count;
  next = capped (list.next + 1);
}

-- a value is due for each part
abbrev pub end_cause : InitialList → Option Cause
end_cause list = unless (list.next == list.count) TypeMismatch
