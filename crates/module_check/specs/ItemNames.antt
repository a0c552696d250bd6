-- The names of a module's items, and what they stand for.
use Rattle.std.specs.Prelude.{ℕ, ◌+◌, ◌-◌, ◌^◌, min, List, [], ◌∷◌, ◌++◌, length, bytes_eq, position, Option, Some, None}
use Rattle.ir_read.specs.Name as nodes
use Rattle.ir_items.specs.declared.item.ItemForm.{ItemForm}
use Rattle.ir_items.specs.declared.item.ItemForm.TheVariants as forms
use Rattle.ir_items.specs.Item.{form_of, name_of}
use Rattle.ir_items.specs.Segment.{Segment}
use Rattle.ir_names.specs.NameTable.{given}
use Rattle.external_calls.specs.Prototype.{by_name}
use Rattle.module_fault.specs.declared.cause.Cause.{Cause}
use Rattle.module_fault.specs.declared.cause.Cause.TheVariants.{Duplicate}
use Rattle.instruction_check.specs.declared.roles.GlobalRole.{GlobalRole}
use Rattle.instruction_check.specs.declared.roles.GlobalRole.TheVariants.{Global, Function, Declared}
use Rattle.module_check.specs.declared.item_names.NamedItems.{NamedItems}
use Rattle.module_fault.specs.Fault.{note}
use Rattle.module_check.specs.MainFunction.{main_cause}
use Rattle.module_check.specs.Signature.{signature_of}

-- one more; counts and numbers stand still at the end of their type
abbrev pub counted : ℕ → ℕ
counted count = min (count + 1) (2 ^ 64 - 1)

-- the number of what comes behind so many
abbrev pub numbered : ℕ → ℕ
numbered count = min count (2 ^ 32 - 1)

abbrev pub text_of : Segment → List ℕ
text_of item = nodes.name_of (name_of item).terminal (name_of item).text

-- the first definition or declaration of a name counts, and any other is a fault
abbrev pub roles_with : List GlobalRole → Option ℕ → GlobalRole → List GlobalRole
roles_with roles None role = roles ++ role ∷ []
roles_with roles (Some place) role = roles

abbrev pub cause_with : Option ℕ → Option Cause → Option Cause
cause_with None cause = cause
cause_with (Some place) cause = Some Duplicate

-- once an item gives its name, which stands for this where it is the first one, with what is wrong then
abbrev pub with_name : NamedItems → Segment → GlobalRole → Option Cause → NamedItems
with_name done item role cause =
    let place = position (bytes_eq (text_of item)) done.names.table in
    record {
      names = record {
        table = given done.names.table (text_of item);
        roles = roles_with done.names.roles place role;
        addresses = done.names.addresses;
        strings = done.names.strings;
        signatures = done.names.signatures;
      };
      globals = done.globals;
      first = note done.first item.first.line (cause_with place cause);
    }

abbrev pub with_global : NamedItems → Segment → NamedItems
with_global done item =
    let one = with_name done item (Global (numbered done.globals)) None in
    record { names = one.names; globals = counted done.globals; first = one.first }

abbrev pub with_declared : NamedItems → Segment → NamedItems
with_declared done item = with_name done item (Declared (by_name (text_of item))) None

abbrev pub with_defined : NamedItems → Segment → NamedItems
with_defined done item =
    let signature = signature_of item in
    let number = numbered (length done.names.signatures) in
    let one = with_name done item (Function number) (main_cause (text_of item) signature) in
    record {
      names = record {
        table = one.names.table;
        roles = one.names.roles;
        addresses = one.names.addresses;
        strings = one.names.strings;
        signatures = done.names.signatures ++ signature ∷ [];
      };
      globals = one.globals;
      first = one.first;
    }

-- a struct has no `@` name
abbrev pub with_form : ItemForm → NamedItems → Segment → NamedItems
with_form forms.Struct done item = done
with_form forms.Global done item = with_global done item
with_form forms.Declare done item = with_declared done item
with_form forms.Define done item = with_defined done item

abbrev pub with_item : NamedItems → Segment → NamedItems
with_item done item = with_form (form_of item) done item

-- those of the items so far, and of those left
abbrev pub names_from : NamedItems → List Segment → NamedItems
names_from done [] = done
names_from done (item ∷ items) = names_from (with_item done item) items

abbrev pub no_names : NamedItems
no_names = record {
  names = record { table = []; roles = []; addresses = []; strings = []; signatures = [] };
  globals = 0;
  first = None;
}

abbrev pub names_of : List Segment → NamedItems
names_of items = names_from no_names items
