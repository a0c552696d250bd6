-- The functions that a module defines, with what is wrong first.
use Rattle.std.specs.Prelude.{List, [], ◌∷◌, ◌++◌, None}
use Rattle.ir_items.specs.declared.item.ItemForm.{ItemForm}
use Rattle.ir_items.specs.declared.item.ItemForm.TheVariants as forms
use Rattle.ir_items.specs.Item.{form_of}
use Rattle.ir_items.specs.Segment.{Segment}
use Rattle.module_fault.specs.Fault.{earlier}
use Rattle.instruction_check.specs.declared.scope.ModuleNames.{ModuleNames}
use Rattle.struct_table.specs.StructTable.{Structs}
use Rattle.module_build.specs.declared.function.BuiltFunction.{BuiltFunction}
use Rattle.module_build.specs.declared.functions.BuiltFunctions.{BuiltFunctions}
use Rattle.module_build.specs.Function.{function_of}

abbrev pub with_function : BuiltFunctions → BuiltFunction → BuiltFunctions
with_function done one =
    record { functions = done.functions ++ one.function ∷ []; first = earlier done.first one.first }

abbrev pub with_form : ItemForm → ModuleNames → Structs → BuiltFunctions → Segment → BuiltFunctions
with_form forms.Define names structs done item = with_function done (function_of names structs item)
with_form forms.Struct names structs done item = done
with_form forms.Global names structs done item = done
with_form forms.Declare names structs done item = done

-- those of the items so far, and of those left
abbrev pub functions_from : ModuleNames → Structs → BuiltFunctions → List Segment → BuiltFunctions
functions_from names structs done [] = done
functions_from names structs done (item ∷ items) =
    functions_from names structs (with_form (form_of item) names structs done item) items

abbrev pub none_built : BuiltFunctions
none_built = record { functions = []; first = None }

abbrev pub functions_of : ModuleNames → Structs → List Segment → BuiltFunctions
functions_of names structs items = functions_from names structs none_built items
