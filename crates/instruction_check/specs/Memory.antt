-- The instructions that read and write memory at a pointer.
use Rattle.std.specs.Prelude.{ℕ, List}
use Rattle.ir_types.specs.declared.instruction.Inst.{Inst}
use Rattle.ir_types.specs.declared.instruction.Inst.TheVariants as insts
use Rattle.ir_types.specs.declared.word.Kind.TheVariants.{Ptr}
use Rattle.ir_read.specs.Node.{Told}
use Rattle.module_fault.specs.declared.cause.Found.{Found}
use Rattle.module_fault.specs.Cause.{lesser}
use Rattle.instruction_check.specs.Operand.{typed}
use Rattle.instruction_check.specs.Phrases.{first, behind, behind_two, kind_in}
use Rattle.instruction_check.specs.Roles.{unless_same}
use Rattle.instruction_check.specs.Scope.{Scope}

-- `TYPE, ptr OPERAND`
abbrev pub load : Scope → ℕ → List (List Told) → Found Inst
load scope to phrases =
    let at = typed scope (behind phrases) in
    record {
      value = insts.Load to (kind_in (first phrases)) at.value;
      cause = lesser (unless_same at.kind Ptr) at.cause;
    }

-- `TYPE OPERAND, ptr OPERAND`
abbrev pub store : Scope → List (List Told) → Found Inst
store scope phrases =
    let value = typed scope phrases in
    let at = typed scope (behind_two phrases) in
    record {
      value = insts.Store value.kind value.value at.value;
      cause = lesser (unless_same at.kind Ptr) (lesser value.cause at.cause);
    }
