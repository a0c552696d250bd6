-- The globals of a module, with what is wrong first.
use Rattle.std.specs.Prelude.{ℕ, nat_le, List, [], ◌∷◌, ◌++◌, length, slice_get, unwrap_or, if◌then◌else◌}
use Rattle.ir_types.specs.declared.module.GlobalVar.{GlobalVar}
use Rattle.ir_read.specs.Name as nodes
use Rattle.ir_items.specs.declared.item.ItemForm.{ItemForm}
use Rattle.ir_items.specs.declared.item.ItemForm.TheVariants as forms
use Rattle.ir_items.specs.Item.{form_of, is_constant, name_of}
use Rattle.ir_items.specs.Segment.{Segment}
use Rattle.module_fault.specs.Cause.{lesser}
use Rattle.module_fault.specs.Fault.{note}
use Rattle.instruction_check.specs.Scope.{Scope}
use Rattle.struct_table.specs.StructTable.{unknown_in}
use Rattle.global_check.specs.declared.globals.CheckedGlobals.{CheckedGlobals}
use Rattle.global_check.specs.declared.placed.PlacedGlobals.{PlacedGlobals}
use Rattle.global_check.specs.Filling.{Filling, filling_of}
use Rattle.global_check.specs.Placed.{initial_of, most_bytes, type_of}

abbrev pub text_of : Segment → List ℕ
text_of item = nodes.name_of (name_of item).terminal (name_of item).text

-- of globals that take too much no image is made
abbrev pub image_size : ℕ → ℕ → ℕ
image_size total size = if nat_le total most_bytes then size else 0

abbrev pub filling_at : Scope → PlacedGlobals → ℕ → Segment → Filling
filling_at scope placed number item =
    filling_of scope (image_size placed.total (unwrap_or (slice_get placed.sizes number) 0)) (type_of item) (initial_of item)

abbrev pub global_at : PlacedGlobals → ℕ → Segment → List ℕ → GlobalVar
global_at placed number item image = record {
  name = text_of item;
  size = unwrap_or (slice_get placed.sizes number) 0;
  constant = is_constant item;
  base = unwrap_or (slice_get placed.addresses number) 0;
  image = image;
}

abbrev pub with_filling : Scope → PlacedGlobals → CheckedGlobals → Segment → Filling → CheckedGlobals
with_filling scope placed done item filling = record {
  globals = done.globals ++ global_at placed (length done.globals) item filling.image ∷ [];
  first = note done.first item.first.line (lesser (unknown_in scope.structs item.rest) filling.cause);
}

abbrev pub with_form : ItemForm → Scope → PlacedGlobals → CheckedGlobals → Segment → CheckedGlobals
with_form forms.Global scope placed done item =
    with_filling scope placed done item (filling_at scope placed (length done.globals) item)
with_form forms.Struct scope placed done item = done
with_form forms.Declare scope placed done item = done
with_form forms.Define scope placed done item = done

-- those of the items so far, and of those left
abbrev pub globals_from : Scope → PlacedGlobals → CheckedGlobals → List Segment → CheckedGlobals
globals_from scope placed done [] = done
globals_from scope placed done (item ∷ items) =
    globals_from scope placed (with_form (form_of item) scope placed done item) items

abbrev pub none_checked : PlacedGlobals → CheckedGlobals
none_checked placed = record { globals = []; first = placed.first }

abbrev pub globals_of : Scope → PlacedGlobals → List Segment → CheckedGlobals
globals_of scope placed items = globals_from scope placed (none_checked placed) items
