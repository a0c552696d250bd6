-- Where the globals of a module lie, one behind another in the order of the text.
use Rattle.std.specs.Prelude.{ℕ, ◌+◌, ◌-◌, ◌*◌, ◌/◌, ◌^◌, nat_le, min, List, [], ◌∷◌, ◌++◌, None}
use Rattle.ir_read.specs.Node.{Told}
use Rattle.ir_read.specs.Shape.{behind_type, type_in}
use Rattle.ir_items.specs.declared.item.ItemForm.{ItemForm}
use Rattle.ir_items.specs.declared.item.ItemForm.TheVariants as forms
use Rattle.ir_items.specs.Item.{form_of, value_of}
use Rattle.ir_items.specs.Segment.{Segment}
use Rattle.ir_layout.specs.declared.extent.Overflow.TheVariants as o
use Rattle.ir_layout.specs.Extent.{kept}
use Rattle.ir_layout.specs.Walk.{extent_by}
use Rattle.module_fault.specs.declared.cause.Cause.TheVariants.{BadShape}
use Rattle.module_fault.specs.Cause.{unless}
use Rattle.module_fault.specs.Fault.{note}
use Rattle.struct_table.specs.StructTable.{Structs, extent}
use Rattle.global_check.specs.declared.placed.PlacedGlobals.{PlacedGlobals}

-- all globals of a module take at most 1 MiB
abbrev pub most_bytes : ℕ
most_bytes = 1048576

-- the first address of a global
abbrev pub first_address : ℕ
first_address = 4294967296

abbrev pub capped : ℕ → ℕ
capped number = min number (2 ^ 64 - 1)

-- the next multiple of 16 that leaves 16 bytes behind an object
abbrev pub behind : ℕ → ℕ → ℕ
behind base size = capped (capped (base + size) + 31) / 16 * 16

-- the nodes of a global's type, and those of what it begins with
abbrev pub type_of : Segment → List Told
type_of item = type_in (value_of item)

abbrev pub initial_of : Segment → List Told
initial_of item = behind_type (value_of item)

abbrev pub size_of : Structs → Segment → ℕ
size_of structs item = (extent_by (kept o.Saturating) (extent structs o.Saturating) (type_of item)).size

-- the one with which the sizes pass what globals may take is at fault
abbrev pub with_size : PlacedGlobals → ℕ → ℕ → PlacedGlobals
with_size done line size = record {
  addresses = done.addresses ++ done.next ∷ [];
  sizes = done.sizes ++ size ∷ [];
  next = behind done.next size;
  total = capped (done.total + size);
  first = note done.first line (unless (nat_le (capped (done.total + size)) most_bytes) BadShape);
}

abbrev pub with_form : ItemForm → Structs → PlacedGlobals → Segment → PlacedGlobals
with_form forms.Global structs done item = with_size done item.first.line (size_of structs item)
with_form forms.Struct structs done item = done
with_form forms.Declare structs done item = done
with_form forms.Define structs done item = done

-- those of the items so far, and of those left
abbrev pub placed_from : Structs → PlacedGlobals → List Segment → PlacedGlobals
placed_from structs done [] = done
placed_from structs done (item ∷ items) = placed_from structs (with_form (form_of item) structs done item) items

abbrev pub none_placed : PlacedGlobals
none_placed = record { addresses = []; sizes = []; next = first_address; total = 0; first = None }

abbrev pub placed : Structs → List Segment → PlacedGlobals
placed structs items = placed_from structs none_placed items
