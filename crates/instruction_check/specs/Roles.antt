-- What names stand for, where they are used as operands, blocks and globals.
use Rattle.std.specs.Prelude.{ℕ, Bool, not, ◌==◌, Option, Some, None}
use Rattle.ir_types.specs.declared.instruction.Operand.{Operand}
use Rattle.ir_types.specs.declared.instruction.Operand.TheVariants as operands
use Rattle.ir_types.specs.declared.word.Kind.{Kind}
use Rattle.ir_types.specs.declared.word.Kind.TheVariants.{Int, Ptr}
use Rattle.ir_types.specs.declared.word.Width.TheVariants.{W1, W8, W16, W32, W64}
use Rattle.module_fault.specs.declared.cause.Cause.{Cause}
use Rattle.module_fault.specs.declared.cause.Cause.TheVariants.{UnknownName, TypeMismatch, Unsupported}
use Rattle.module_fault.specs.declared.cause.Found.{Found}
use Rattle.instruction_check.specs.declared.roles.GlobalRole.{GlobalRole}
use Rattle.instruction_check.specs.declared.roles.GlobalRole.TheVariants as globals
use Rattle.instruction_check.specs.declared.roles.LocalRole.{LocalRole}
use Rattle.instruction_check.specs.declared.roles.LocalRole.TheVariants as locals
use Rattle.module_fault.specs.Cause.{lesser, unless}
use Rattle.instruction_check.specs.Literals.{constant}

abbrev pub code_of : Kind → ℕ
code_of Ptr = 0
code_of (Int W1) = 1
code_of (Int W8) = 2
code_of (Int W16) = 3
code_of (Int W32) = 4
code_of (Int W64) = 5

abbrev pub same_kind : Kind → Kind → Bool
same_kind one other = code_of one == code_of other

-- the code of what a function gives, or nothing
abbrev pub result_code : Option Kind → ℕ
result_code None = 6
result_code (Some kind) = code_of kind

abbrev pub same_result : Option Kind → Option Kind → Bool
same_result one other = result_code one == result_code other

-- a kind where the other one is due
abbrev pub unless_same : Kind → Kind → Option Cause
unless_same one other = unless (same_kind one other) TypeMismatch

-- a register has its kind, and the result of an output call has no use; that a call without a result is given a name
-- is that call's fault alone
abbrev pub register : Kind → Option LocalRole → Found Operand
register kind (Some (locals.Register number given is_output)) = record {
  value = operands.Register number;
  cause = lesser (unless_same given kind) (unless (not is_output) Unsupported);
}
register kind (Some locals.Void) = record { value = constant kind 0; cause = None }
register kind (Some (locals.Block number)) = record { value = constant kind 0; cause = Some UnknownName }
register kind None = record { value = constant kind 0; cause = Some UnknownName }

abbrev pub block : Option LocalRole → Found ℕ
block (Some (locals.Block number)) = record { value = number; cause = None }
block (Some (locals.Register number kind is_output)) = record { value = 0; cause = Some UnknownName }
block (Some locals.Void) = record { value = 0; cause = Some UnknownName }
block None = record { value = 0; cause = Some UnknownName }

-- a function's name is none of a value
abbrev pub global : Option GlobalRole → Found ℕ
global (Some (globals.Global number)) = record { value = number; cause = None }
global (Some (globals.Function number)) = record { value = 0; cause = Some UnknownName }
global (Some (globals.Declared call)) = record { value = 0; cause = Some UnknownName }
global None = record { value = 0; cause = Some UnknownName }
