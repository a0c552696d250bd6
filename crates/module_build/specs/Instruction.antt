-- An instruction of a body, by its word.
use Rattle.std.specs.Prelude.{ℕ, List, is_some, Some, None}
use Rattle.ir_read.specs.declared.terminal.Terminal.{Terminal}
use Rattle.ir_read.specs.declared.terminal.Terminal.TheVariants as t
use Rattle.ir_read.specs.Node.{Told}
use Rattle.ir_items.specs.Phrase.{phrases_of}
use Rattle.ir_items.specs.Statement.{Statement}
use Rattle.ir_types.specs.declared.instruction.Inst.{Inst}
use Rattle.ir_types.specs.declared.instruction.Inst.TheVariants as insts
use Rattle.module_fault.specs.declared.cause.Cause.TheVariants.{BadShape}
use Rattle.module_fault.specs.declared.cause.Found.{Found}
use Rattle.instruction_check.specs.Address.{alloca, element}
use Rattle.instruction_check.specs.Control.{branch, phi, ret, switch}
use Rattle.instruction_check.specs.Memory.{load, store}
use Rattle.instruction_check.specs.Operations.{binary_of, cast_of}
use Rattle.instruction_check.specs.Scope.{Scope}
use Rattle.instruction_check.specs.Values.{binary, compare, convert, select}
use Rattle.call_check.specs.Call.{call}

-- what begins with no word of an instruction is none
abbrev pub instruction_by : Terminal → Scope → ℕ → Statement → List (List Told) → Found Inst
instruction_by t.Binary scope to statement phrases = binary scope to (binary_of statement.operation.text) phrases
instruction_by t.Icmp scope to statement phrases = compare scope to phrases
instruction_by t.Cast scope to statement phrases = convert scope to (cast_of statement.operation.text) phrases
instruction_by t.IntToPtr scope to statement phrases = convert scope to (cast_of statement.operation.text) phrases
instruction_by t.Select scope to statement phrases = select scope to phrases
instruction_by t.Phi scope to statement phrases = phi scope to phrases
instruction_by t.Alloca scope to statement phrases = alloca scope to phrases
instruction_by t.Load scope to statement phrases = load scope to phrases
instruction_by t.Store scope to statement phrases = store scope phrases
instruction_by t.GetElementPtr scope to statement phrases = element scope to phrases
instruction_by t.Br scope to statement phrases = branch scope phrases
instruction_by t.Switch scope to statement phrases = switch scope phrases
instruction_by t.Ret scope to statement phrases = ret scope phrases
instruction_by t.Call scope to statement phrases = call scope to (is_some statement.result) statement.operands
instruction_by t.Unreachable scope to statement phrases = record { value = insts.Unreachable; cause = None }
instruction_by _ scope to statement phrases = record { value = insts.Unreachable; cause = Some BadShape }

-- what sets a register sets the one of the number
abbrev pub instruction : Scope → ℕ → Statement → Found Inst
instruction scope to statement =
    instruction_by statement.operation.terminal scope to statement (phrases_of statement.operands)
