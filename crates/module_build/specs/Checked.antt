-- The module that nodes spell, or what is wrong first.
use Rattle.std.specs.Prelude.{ℕ, List, [], Option, Some, None, Result, Ok, Err}
use Rattle.ir_read.specs.declared.error.ModuleError.{ModuleError}
use Rattle.ir_read.specs.declared.error.ModuleError.TheVariants as errors
use Rattle.ir_read.specs.Node.{Told}
use Rattle.ir_read.specs.Text.{raw_module_in}
use Rattle.ir_items.specs.declared.segment.Cut.TheVariants as cuts
use Rattle.ir_items.specs.Segment.{Segment, segments_of}
use Rattle.ir_types.specs.declared.module.Module.{Module}
use Rattle.rc_base.specs.Failures.{◌>>=◌}
use Rattle.module_fault.specs.declared.cause.Cause.{Cause}
use Rattle.module_fault.specs.declared.cause.Cause.TheVariants as causes
use Rattle.module_fault.specs.declared.fault.Fault.{Fault}
use Rattle.module_fault.specs.Fault.{earlier}
use Rattle.instruction_check.specs.declared.scope.BodyNames.{BodyNames}
use Rattle.instruction_check.specs.declared.scope.ModuleNames.{ModuleNames}
use Rattle.instruction_check.specs.Scope.{Scope}
use Rattle.struct_table.specs.Faults.{struct_fault}
use Rattle.struct_table.specs.StructTable.{Structs, structs_of}
use Rattle.global_check.specs.declared.placed.PlacedGlobals.{PlacedGlobals}
use Rattle.global_check.specs.Globals.{globals_of}
use Rattle.global_check.specs.Placed.{placed}
use Rattle.global_check.specs.Strings.{strings_from}
use Rattle.module_check.specs.declared.item_names.NamedItems.{NamedItems}
use Rattle.module_check.specs.ItemNames as named_items
use Rattle.module_check.specs.MainFunction.{main_of}
use Rattle.module_check.specs.Names.{or_no_main}
use Rattle.module_build.specs.declared.checked.Parts.{Parts}
use Rattle.module_build.specs.Functions.{functions_of}

-- ---- names

-- those of the items, with where globals lie and what constants hold
abbrev pub names_with : ModuleNames → PlacedGlobals → List (List ℕ) → ModuleNames
names_with names placed strings = record {
  table = names.table;
  roles = names.roles;
  addresses = placed.addresses;
  strings = strings;
  signatures = names.signatures;
}

-- what a global begins with names no register
abbrev pub no_body : BodyNames
no_body = record { table = []; roles = []; result = None }

abbrev pub global_scope : ModuleNames → Structs → Scope
global_scope names structs = record { names = names; body = no_body; structs = structs }

-- ---- all parts

abbrev pub parts_by : Option Fault → ModuleNames → Structs → PlacedGlobals → List Segment → Parts
parts_by first names structs placed items =
    let globals = globals_of (global_scope names structs) placed items in
    let functions = functions_of names structs items in
    record {
      names = names;
      globals = globals;
      functions = functions;
      first = earlier (earlier (earlier first (struct_fault structs items)) globals.first) functions.first;
    }

abbrev pub parts_with : NamedItems → Structs → PlacedGlobals → List Segment → Parts
parts_with named structs placed items =
    parts_by named.first (names_with named.names placed (strings_from [] items)) structs placed items

abbrev pub parts_of : List Segment → Parts
parts_of items =
    let structs = structs_of items in
    parts_with (named_items.names_of items) structs (placed structs items) items

-- ---- the module

abbrev pub error_at : Cause → ℕ → ModuleError
error_at causes.UnknownName line = errors.UnknownName line
error_at causes.Duplicate line = errors.Duplicate line
error_at causes.TypeMismatch line = errors.TypeMismatch line
error_at causes.Unsupported line = errors.Unsupported line
error_at causes.BadShape line = errors.BadShape line

-- where no `main` is defined there is a fault
abbrev pub or_first : Option ℕ → ℕ
or_first None = 0
or_first (Some number) = number

abbrev pub module_by : Option Fault → Option ℕ → Parts → Result Module ModuleError
module_by (Some fault) main parts = Err (error_at fault.cause fault.line)
module_by None main parts =
    Ok (record { globals = parts.globals.globals; functions = parts.functions.functions; main = or_first main })

abbrev pub module_with : Parts → Result Module ModuleError
module_with parts = module_by (or_no_main parts.first (main_of parts.names)) (main_of parts.names) parts

-- the module that the nodes spell, or what is wrong with it first
abbrev pub checked_module : List Told → Result Module ModuleError
checked_module nodes = module_with (parts_of (segments_of cuts.Items nodes))

-- the module that a text spells, or its first fault
abbrev pub module_in : List ℕ → Result Module ModuleError
module_in text = raw_module_in text >>= checked_module
