-- The blocks of a body, with their instructions.
use Rattle.std.specs.Prelude.{ℕ, ◌+◌, ◌-◌, ◌^◌, min, Bool, true, not, List, [], ◌∷◌, ◌++◌, length, Option, Some, None, if◌then◌else◌}
use Rattle.ir_types.specs.declared.instruction.Inst.{Inst}
use Rattle.ir_types.specs.declared.module.Block.{Block}
use Rattle.ir_types.specs.declared.word.Kind.{Kind}
use Rattle.ir_read.specs.Node.{Told}
use Rattle.ir_items.specs.Statement.{Statement, is_label, statements_of}
use Rattle.module_fault.specs.declared.cause.Found.{Found}
use Rattle.module_fault.specs.Cause.{lesser}
use Rattle.module_fault.specs.Fault.{note}
use Rattle.instruction_check.specs.Results.{result_of}
use Rattle.instruction_check.specs.Scope.{Scope}
use Rattle.struct_table.specs.StructTable.{unknown_in}
use Rattle.module_check.specs.BodyNames.{begins_with_label}
use Rattle.module_check.specs.ItemNames.{counted, numbered}
use Rattle.module_build.specs.declared.body.BuiltBody.{BuiltBody}
use Rattle.module_build.specs.Instruction.{instruction}

abbrev pub capped : ℕ → ℕ
capped number = min number (2 ^ 64 - 1)

abbrev pub block : ℕ → List Inst → Block
block start insts = record { first = numbered start; insts = insts }

-- the blocks with the open one, if one is open
abbrev pub blocks_with : BuiltBody → List Block
blocks_with done =
    if done.is_open then done.blocks ++ block done.start done.insts ∷ []
    else done.blocks

-- a label ends the block before it, and opens one
abbrev pub with_label : BuiltBody → BuiltBody
with_label done = record {
  blocks = blocks_with done;
  is_open = true;
  start = capped (done.start + length done.insts);
  insts = [];
  registers = done.registers;
  first = done.first;
}

abbrev pub registers_with : ℕ → Option Kind → ℕ
registers_with registers None = registers
registers_with registers (Some kind) = counted registers

abbrev pub with_found : Scope → BuiltBody → Statement → Found Inst → BuiltBody
with_found scope done statement found = record {
  blocks = done.blocks;
  is_open = done.is_open;
  start = done.start;
  insts = done.insts ++ found.value ∷ [];
  registers = registers_with done.registers (result_of statement);
  first = note done.first statement.line (lesser (unknown_in scope.structs statement.operands) found.cause);
}

-- what gives a value sets the next register
abbrev pub with_instruction : Scope → BuiltBody → Statement → BuiltBody
with_instruction scope done statement =
    with_found scope done statement (instruction scope (numbered done.registers) statement)

abbrev pub with_statement : Scope → BuiltBody → Statement → BuiltBody
with_statement scope done statement =
    if is_label statement then with_label done else with_instruction scope done statement

-- those so far, and those of the statements left
abbrev pub built_from : Scope → BuiltBody → List Statement → BuiltBody
built_from scope done [] = done
built_from scope done (statement ∷ statements) = built_from scope (with_statement scope done statement) statements

-- before the first statement; the arguments are the first registers
abbrev pub none_built : Bool → ℕ → BuiltBody
none_built is_labelled arguments =
    record { blocks = []; is_open = not is_labelled; start = 0; insts = []; registers = arguments; first = None }

abbrev pub built : Scope → ℕ → List Told → BuiltBody
built scope arguments body = built_from scope (none_built (begins_with_label body) arguments) (statements_of body)
