-- The first fault of a module's names and shapes.
use Rattle.std.specs.Prelude.{ℕ, List, [], ◌∷◌, Option, Some, None}
use Rattle.ir_items.specs.declared.item.ItemForm.{ItemForm}
use Rattle.ir_items.specs.declared.item.ItemForm.TheVariants.{Struct, Global, Declare, Define}
use Rattle.ir_items.specs.Item.{form_of}
use Rattle.ir_items.specs.Segment.{Segment}
use Rattle.module_fault.specs.declared.cause.Cause.TheVariants.{BadShape}
use Rattle.instruction_check.specs.declared.scope.ModuleNames.{ModuleNames}
use Rattle.module_fault.specs.declared.fault.Fault.{Fault}
use Rattle.module_check.specs.BodyNames as bodies
use Rattle.module_fault.specs.Fault.{earlier}
use Rattle.module_check.specs.ItemNames as items
use Rattle.module_check.specs.MainFunction.{main_of}
use Rattle.module_check.specs.Phis.{phi_fault}
use Rattle.module_check.specs.Shape.{shape_fault}

-- of a defined function
abbrev pub body_fault : ModuleNames → Segment → Option Fault
body_fault names item =
    let named = bodies.names_of names item in
    earlier (earlier named.first (shape_fault item)) (phi_fault named.names named.blocks item)

abbrev pub fault_by : ItemForm → ModuleNames → Segment → Option Fault
fault_by Define names item = body_fault names item
fault_by Struct names item = None
fault_by Global names item = None
fault_by Declare names item = None

abbrev pub item_fault : ModuleNames → Segment → Option Fault
item_fault names item = fault_by (form_of item) names item

-- the first so far, and those of the bodies left
abbrev pub bodies_from : ModuleNames → Option Fault → List Segment → Option Fault
bodies_from names found [] = found
bodies_from names found (item ∷ items) = bodies_from names (earlier found (item_fault names item)) items

-- that no `main` is defined is a fault of no line, behind all others
abbrev pub or_no_main : Option Fault → Option ℕ → Option Fault
or_no_main (Some fault) main = Some fault
or_no_main None (Some number) = None
or_no_main None None = Some (record { line = 0; cause = BadShape })

abbrev pub names_fault : List Segment → Option Fault
names_fault all =
    let named = items.names_of all in
    or_no_main (bodies_from named.names named.first all) (main_of named.names)
