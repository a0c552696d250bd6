-- What is wrong with a module's structs.
use Rattle.std.specs.Prelude.{ℕ, Bool, false, ◌==◌, List, [], ◌∷◌, Option, Some, None, if◌then◌else◌}
use Rattle.ir_items.specs.declared.item.ItemForm.{ItemForm}
use Rattle.ir_items.specs.declared.item.ItemForm.TheVariants as forms
use Rattle.ir_items.specs.Item.{form_of, value_of}
use Rattle.ir_items.specs.Segment.{Segment}
use Rattle.module_fault.specs.declared.cause.Cause.{Cause}
use Rattle.module_fault.specs.declared.cause.Cause.TheVariants.{BadShape}
use Rattle.module_fault.specs.declared.fault.Fault.{Fault}
use Rattle.module_fault.specs.Cause.{lesser}
use Rattle.module_fault.specs.Fault.{note}
use Rattle.struct_table.specs.Graph.{first_circle, holds_of}
use Rattle.struct_table.specs.Named.{named_in, text_of}
use Rattle.struct_table.specs.StructTable.{Structs, number_of, unknown_in}

abbrev pub is_same : Option ℕ → Option ℕ → Bool
is_same (Some one) (Some other) = one == other
is_same _ _ = false

abbrev pub circle_cause : Option ℕ → Option ℕ → Option Cause
circle_cause circle number = if is_same circle number then Some BadShape else None

-- a name that nothing gives, or a struct that holds itself
abbrev pub struct_cause : Structs → Option ℕ → Segment → Option Cause
struct_cause structs circle item =
    lesser (unknown_in structs (value_of item)) (circle_cause circle (number_of structs (text_of item)))

abbrev pub cause_by : ItemForm → Structs → Option ℕ → Segment → Option Cause
cause_by forms.Struct structs circle item = struct_cause structs circle item
cause_by _ structs circle item = None

-- the first so far, and those of the items left
abbrev pub faults_from : Structs → Option ℕ → Option Fault → List Segment → Option Fault
faults_from structs circle found [] = found
faults_from structs circle found (item ∷ items) =
    faults_from structs circle (note found item.first.line (cause_by (form_of item) structs circle item)) items

-- Second names, unknown names and circles. Of several structs that hold themselves the first in the text is at fault.
abbrev pub struct_fault : Structs → List Segment → Option Fault
struct_fault structs items =
    faults_from structs (first_circle (holds_of structs.names structs.types)) (named_in items).first items
