-- An instruction ends its block where its statement does.
use Rattle.std.proofs.Common.{◌≡◌, ℕ, Bool, true, false, List, [], ◌∷◌, Option, Some, None, is_some, refl, if◌then◌else◌}
use Rattle.ir_read.specs.declared.terminal.Terminal.{Terminal}
use Rattle.ir_read.specs.declared.terminal.Terminal.TheVariants as t
use Rattle.ir_read.specs.Node.{Told}
use Rattle.ir_items.specs.Phrase.{phrases_of}
use Rattle.ir_items.specs.Statement.{Statement}
use Rattle.ir_types.specs.declared.external.Piece.{Piece}
use Rattle.ir_types.specs.declared.instruction.Inst.{Inst}
use Rattle.ir_types.specs.declared.instruction.Operand.{Operand}
use Rattle.ir_types.specs.declared.word.Width.{Width}
use Rattle.ir_types.specs.declared.word.Width.TheVariants.{W1, W8, W16, W32, W64}
use Rattle.machine_model.specs.Rows.{ends_block}
use Rattle.module_fault.specs.declared.cause.Cause.{Cause}
use Rattle.module_fault.specs.declared.cause.Found.{Found}
use Rattle.module_fault.specs.Cause.{lesser}
use Rattle.instruction_check.specs.declared.operations.Cast.{Cast}
use Rattle.instruction_check.specs.declared.operations.Cast.TheVariants.{Truncate, ZeroExtend, SignExtend, PointerToInteger, IntegerToPointer}
use Rattle.instruction_check.specs.Control.{branch_if, branch_to, is_name, is_void, ret_value, ret_void}
use Rattle.instruction_check.specs.Operations.{converted, narrowed, widened}
use Rattle.instruction_check.specs.Phrases.{first, behind, kind_in}
use Rattle.instruction_check.specs.Scope.{Scope}
use Rattle.call_check.specs.declared.arguments.Arguments.{Arguments}
use Rattle.call_check.specs.declared.callee.Callee.{Callee}
use Rattle.call_check.specs.declared.callee.Callee.TheVariants as callees
use Rattle.call_check.specs.Call.{called, refusal_of}
use Rattle.module_check.specs.Shape.{ends_block_by}
use Rattle.module_check.specs.Shape as shapes
use Rattle.module_build.specs.Instruction.{instruction, instruction_by}
use Rattle.module_build.proofs.Choice.{either}
use Rattle.module_build.proofs.Faults.{no_lesser}

narrowed_stays : (to : ℕ) (operand : Operand) (width : Width) → ends_block (narrowed to operand width) ≡ false
unfolding ends_block
narrowed_stays to operand W64 = refl
narrowed_stays to operand _ = refl

widened_stays : (to : ℕ) (operand : Operand) (width : Width) → ends_block (widened to operand width) ≡ false
unfolding ends_block
widened_stays to operand W64 = refl
widened_stays to operand _ = refl

converted_stays : (to : ℕ) (cast : Cast) (operand : Operand) (from width : Width) → ends_block (converted to cast operand from width) ≡ false
unfolding ends_block
converted_stays to Truncate operand from width = refl
converted_stays to ZeroExtend operand from width = refl
converted_stays to SignExtend operand from width = refl
converted_stays to PointerToInteger operand from width = narrowed_stays to operand width
converted_stays to IntegerToPointer operand from width = widened_stays to operand from

called_stays : (to : Option ℕ) (callee : Callee) (pieces : Option (List Piece)) (arguments : Arguments) →
    refusal_of callee ≡ None → ends_block (called to callee pieces arguments) ≡ false
unfolding ends_block
called_stays to (callees.Function number) pieces arguments is = refl
called_stays to (callees.External call) pieces arguments is = refl
called_stays to (callees.Refused cause) pieces arguments is = absurd (let no : ⊥ = cc in no)

ends_by : (terminal : Terminal) (scope : Scope) (to : ℕ) (statement : Statement) (phrases : List (List Told)) →
    (instruction_by terminal scope to statement phrases).cause ≡ None →
    ends_block (instruction_by terminal scope to statement phrases).value ≡ ends_block_by terminal
unfolding ends_block
ends_by t.Binary scope to statement phrases is = refl
ends_by t.Icmp scope to statement phrases is = refl
ends_by t.Cast scope to statement phrases is = converted_stays to _ _ _ _
ends_by t.IntToPtr scope to statement phrases is = converted_stays to _ _ _ _
ends_by t.Select scope to statement phrases is = refl
ends_by t.Phi scope to statement phrases is = refl
ends_by t.Alloca scope to statement phrases is = refl
ends_by t.Load scope to statement phrases is = refl
ends_by t.Store scope to statement phrases is = refl
ends_by t.GetElementPtr scope to statement phrases is = refl
ends_by t.Br scope to statement phrases is =
    either (λ (found : Found Inst). ends_block found.value ≡ true) (is_name (first phrases)) (branch_to scope (first phrases))
    (branch_if scope (kind_in (first phrases)) (behind phrases)) refl refl
ends_by t.Switch scope to statement phrases is = refl
ends_by t.Ret scope to statement phrases is =
    either (λ (found : Found Inst). ends_block found.value ≡ true) (is_void (first phrases)) (ret_void scope)
    (ret_value scope (kind_in (first phrases)) (behind phrases)) refl refl
ends_by t.Call scope to statement phrases is =
    called_stays _ _ _ _ (no_lesser _ _ (no_lesser _ _ is).0).0
ends_by t.Unreachable scope to statement phrases is = refl
ends_by _ scope to statement phrases is = cc

pub ends_alike : (scope : Scope) (to : ℕ) (statement : Statement) → (instruction scope to statement).cause ≡ None →
    ends_block (instruction scope to statement).value ≡ shapes.ends_block statement
ends_alike scope to statement is = ends_by statement.operation.terminal scope to statement (phrases_of statement.operands) is
