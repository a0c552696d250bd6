-- The names of a body's arguments, blocks and registers, and what they stand for.
use Rattle.std.specs.Prelude.{ℕ, Bool, false, List, [], ◌∷◌, ◌++◌, length, Option, Some, None, if◌then◌else◌}
use Rattle.ir_types.specs.declared.word.Kind.{Kind}
use Rattle.ir_read.specs.Node.{Told}
use Rattle.ir_items.specs.Item.{Parameter, body_of, parameters_of, result_type_of}
use Rattle.ir_items.specs.Segment.{Segment}
use Rattle.ir_items.specs.Statement.{Statement, is_label, statements_of}
use Rattle.ir_names.specs.declared.local_name.LocalName.{LocalName}
use Rattle.ir_names.specs.declared.local_table.Given.{Given}
use Rattle.ir_names.specs.declared.local_table.Given.TheVariants.{Fresh, Duplicate, Below}
use Rattle.ir_names.specs.LocalName.{local_of}
use Rattle.ir_names.specs.LocalTable.{defined, given, name_given}
use Rattle.module_fault.specs.declared.cause.Cause.{Cause}
use Rattle.module_fault.specs.declared.cause.Cause.TheVariants as causes
use Rattle.instruction_check.specs.declared.roles.LocalRole.{LocalRole}
use Rattle.instruction_check.specs.declared.roles.LocalRole.TheVariants.{Register, Block, Void}
use Rattle.instruction_check.specs.declared.scope.ModuleNames.{ModuleNames}
use Rattle.instruction_check.specs.Literals.{kind_of}
use Rattle.instruction_check.specs.Results.{result_of}
use Rattle.module_check.specs.declared.body_names.NamedBody.{NamedBody}
use Rattle.module_check.specs.Callee.{is_output}
use Rattle.module_fault.specs.Fault.{note}
use Rattle.module_check.specs.ItemNames.{counted, numbered}
use Rattle.module_check.specs.Signature.{result_kind}

-- ---- one definition

-- a number below the count is a fault of shape
abbrev pub cause_of : Given → Option Cause
cause_of Fresh = None
cause_of Duplicate = Some causes.Duplicate
cause_of Below = Some causes.BadShape

-- the first definition of a name counts
abbrev pub roles_with : List LocalRole → Given → LocalRole → List LocalRole
roles_with roles Duplicate role = roles
roles_with roles Fresh role = roles ++ role ∷ []
roles_with roles Below role = roles ++ role ∷ []

abbrev pub local_name : Option Told → Option LocalName
local_name None = None
local_name (Some node) = Some (local_of node.terminal node.text)

-- once the name of a node is defined, or the number to which the count has come
abbrev pub with_name : ℕ → NamedBody → Option Told → LocalRole → NamedBody
with_name line done name role =
    let defines = name_given done.names.table (local_name name) in
    record {
      names = record {
        table = defined done.names.table defines;
        roles = roles_with done.names.roles (given done.names.table defines) role;
        result = done.names.result;
      };
      registers = done.registers;
      blocks = done.blocks;
      first = note done.first line (cause_of (given done.names.table defines));
    }

abbrev pub with_register : ℕ → NamedBody → Option Told → Kind → Bool → NamedBody
with_register line done name kind written =
    let one = with_name line done name (Register (numbered (length done.registers)) kind written) in
    record { names = one.names; registers = done.registers ++ kind ∷ []; blocks = one.blocks; first = one.first }

abbrev pub with_block : ℕ → NamedBody → Option Told → NamedBody
with_block line done name =
    let one = with_name line done name (Block (numbered done.blocks)) in
    record { names = one.names; registers = one.registers; blocks = counted done.blocks; first = one.first }

-- what gives no value defines nothing, unless it has a name
abbrev pub with_void : ℕ → NamedBody → Option Told → NamedBody
with_void line done None = done
with_void line done (Some node) = with_name line done (Some node) Void

-- ---- the definitions of a body

-- those so far, and those of the parameters left, at the line of the function
abbrev pub with_parameters : ℕ → NamedBody → List Parameter → NamedBody
with_parameters line done [] = done
with_parameters line done (parameter ∷ parameters) =
    with_parameters line (with_register line done parameter.name (kind_of parameter.value_type) false) parameters

abbrev pub first_is_label : List Statement → Bool
first_is_label [] = false
first_is_label (statement ∷ statements) = is_label statement

abbrev pub begins_with_label : List Told → Bool
begins_with_label body = first_is_label (statements_of body)

-- a body that begins with no label has a first block without a name
abbrev pub with_first_block : ℕ → NamedBody → List Told → NamedBody
with_first_block line done body = if begins_with_label body then done else with_block line done None

abbrev pub with_result : ModuleNames → NamedBody → Statement → Option Kind → NamedBody
with_result names done statement (Some kind) =
    with_register statement.line done statement.result kind (is_output names statement)
with_result names done statement None = with_void statement.line done statement.result

abbrev pub with_instruction : ModuleNames → NamedBody → Statement → NamedBody
with_instruction names done statement = with_result names done statement (result_of statement)

abbrev pub with_statement : ModuleNames → NamedBody → Statement → NamedBody
with_statement names done statement =
    if is_label statement then with_block statement.line done (Some statement.operation)
    else with_instruction names done statement

-- those so far, and those of the statements left
abbrev pub with_statements : ModuleNames → NamedBody → List Statement → NamedBody
with_statements names done [] = done
with_statements names done (statement ∷ statements) = with_statements names (with_statement names done statement) statements

abbrev pub no_names : Option Kind → NamedBody
no_names result = record {
  names = record { table = []; roles = []; result = result };
  registers = [];
  blocks = 0;
  first = None;
}

-- arguments, the first block, and then blocks and registers as they are written
abbrev pub names_of : ModuleNames → Segment → NamedBody
names_of names item =
    let line = item.first.line in
    let arguments = with_parameters line (no_names (result_kind (result_type_of item))) (parameters_of item) in
    with_statements names (with_first_block line arguments (body_of item)) (statements_of (body_of item))
