-- A defined function.
use Rattle.std.specs.Prelude.{List, [], ◌∷◌, ◌++◌, length, Option}
use Rattle.ir_types.specs.declared.word.Kind.{Kind}
use Rattle.ir_items.specs.Item.{Parameter, body_of, parameters_of, result_type_of}
use Rattle.ir_items.specs.Segment.{Segment}
use Rattle.module_fault.specs.declared.fault.Fault.{Fault}
use Rattle.module_fault.specs.Fault.{earlier}
use Rattle.instruction_check.specs.declared.scope.ModuleNames.{ModuleNames}
use Rattle.instruction_check.specs.Literals.{kind_of}
use Rattle.instruction_check.specs.Scope.{Scope}
use Rattle.struct_table.specs.StructTable.{Structs}
use Rattle.module_check.specs.declared.body_names.NamedBody.{NamedBody}
use Rattle.module_check.specs.BodyNames.{names_of}
use Rattle.module_check.specs.ItemNames.{text_of}
use Rattle.module_check.specs.Phis.{phi_fault}
use Rattle.module_check.specs.Shape.{shape_fault}
use Rattle.module_check.specs.Signature.{result_kind}
use Rattle.module_build.specs.declared.body.BuiltBody.{BuiltBody}
use Rattle.module_build.specs.declared.function.BuiltFunction.{BuiltFunction}
use Rattle.module_build.specs.Body.{blocks_with, built}

-- the kinds of the parameters so far, and of those left
abbrev pub kinds_from : List Kind → List Parameter → List Kind
kinds_from done [] = done
kinds_from done (parameter ∷ parameters) = kinds_from (done ++ kind_of parameter.value_type ∷ []) parameters

abbrev pub kinds_of : Segment → List Kind
kinds_of item = kinds_from [] (parameters_of item)

abbrev pub scope_of : ModuleNames → Structs → NamedBody → Scope
scope_of names structs named = record { names = names; body = named.names; structs = structs }

-- what is wrong with the function before its instructions are looked at
abbrev pub shape_of : NamedBody → Segment → Option Fault
shape_of named item = earlier (earlier named.first (shape_fault item)) (phi_fault named.names named.blocks item)

abbrev pub function_with : NamedBody → BuiltBody → Segment → BuiltFunction
function_with named body item = record {
  function = record {
    name = text_of item;
    params = kinds_of item;
    result = result_kind (result_type_of item);
    blocks = blocks_with body;
    registers = named.registers;
  };
  first = earlier (shape_of named item) body.first;
}

abbrev pub function_by : ModuleNames → Structs → NamedBody → Segment → BuiltFunction
function_by names structs named item =
    function_with named (built (scope_of names structs named) (length (kinds_of item)) (body_of item)) item

-- the function that an item defines
abbrev pub function_of : ModuleNames → Structs → Segment → BuiltFunction
function_of names structs item = function_by names structs (names_of names item) item
