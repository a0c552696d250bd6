-- The structs that a module names, with the nodes of their types.
use Rattle.std.specs.Prelude.{ℕ, List, [], ◌∷◌, ◌++◌, bytes_eq, position, Option, Some, None}
use Rattle.ir_read.specs.Name as nodes
use Rattle.ir_read.specs.Node.{Told}
use Rattle.ir_items.specs.declared.item.ItemForm.{ItemForm}
use Rattle.ir_items.specs.declared.item.ItemForm.TheVariants as forms
use Rattle.ir_items.specs.Item.{form_of, name_of, value_of}
use Rattle.ir_items.specs.Segment.{Segment}
use Rattle.ir_names.specs.NameTable.{given}
use Rattle.module_fault.specs.declared.cause.Cause.{Cause}
use Rattle.module_fault.specs.declared.cause.Cause.TheVariants.{Duplicate}
use Rattle.module_fault.specs.Fault.{note}
use Rattle.struct_table.specs.declared.named.NamedStructs.{NamedStructs}

abbrev pub text_of : Segment → List ℕ
text_of item = nodes.name_of (name_of item).terminal (name_of item).text

-- the first definition of a name counts, and any other is a fault
abbrev pub types_with : List (List Told) → Option ℕ → List Told → List (List Told)
types_with types None nodes = types ++ nodes ∷ []
types_with types (Some place) nodes = types

abbrev pub cause_with : Option ℕ → Option Cause
cause_with None = None
cause_with (Some place) = Some Duplicate

abbrev pub with_struct : NamedStructs → Segment → NamedStructs
with_struct done item =
    let place = position (bytes_eq (text_of item)) done.names in
    record {
      names = given done.names (text_of item);
      types = types_with done.types place (value_of item);
      first = note done.first item.first.line (cause_with place);
    }

abbrev pub with_form : ItemForm → NamedStructs → Segment → NamedStructs
with_form forms.Struct done item = with_struct done item
with_form _ done item = done

-- those of the items so far, and of those left
abbrev pub named_from : NamedStructs → List Segment → NamedStructs
named_from done [] = done
named_from done (item ∷ items) = named_from (with_form (form_of item) done item) items

abbrev pub none_named : NamedStructs
none_named = record { names = []; types = []; first = None }

abbrev pub named_in : List Segment → NamedStructs
named_in items = named_from none_named items
