-- An instruction fits where its names stand for what is there, whatever else is wrong with it.
use Rattle.std.proofs.Common.{◌≡◌, ℕ, ◌<◌, Bool, true, false, List, [], All, Option, Some, None, refl}
use Rattle.std.proofs.lemmas.List.Elements.{All-nil}
use Rattle.ir_read.specs.declared.terminal.Terminal.{Terminal}
use Rattle.ir_read.specs.declared.terminal.Terminal.TheVariants as t
use Rattle.ir_read.specs.Node.{Told}
use Rattle.ir_items.specs.Phrase.{phrases_of}
use Rattle.ir_items.specs.Statement.{Statement}
use Rattle.ir_types.specs.declared.instruction.Inst.{Inst}
use Rattle.ir_types.specs.declared.instruction.Operand.{Operand}
use Rattle.ir_types.specs.declared.word.Kind.{Kind}
use Rattle.ir_types.specs.declared.word.Width.{Width}
use Rattle.ir_types.specs.declared.word.Width.TheVariants.{W64}
use Rattle.module_fault.specs.declared.cause.Found.{Found}
use Rattle.instruction_check.specs.declared.operations.Cast.{Cast}
use Rattle.instruction_check.specs.declared.operations.Cast.TheVariants.{Truncate, ZeroExtend, SignExtend, PointerToInteger, IntegerToPointer}
use Rattle.instruction_check.specs.Address.{indices_of}
use Rattle.instruction_check.specs.Control.{branch_if, branch_to, is_name, is_void, ret_value, ret_void}
use Rattle.instruction_check.specs.Operand.{operand, typed}
use Rattle.instruction_check.specs.Operations.{cast_of, converted, narrowed, widened}
use Rattle.instruction_check.specs.Phrases.{first, second, third, fourth, behind, behind_two, kind_in}
use Rattle.instruction_check.specs.Results as results
use Rattle.instruction_check.specs.Values.{convert}
use Rattle.ir_types.specs.Kind.{width_of}
use Rattle.instruction_check.specs.Scope.{Scope}
use Rattle.call_check.specs.Call as call
use Rattle.call_check.specs.Callee as callee
use Rattle.module_build.specs.Instruction.{instruction, instruction_by}
use Rattle.module_build.specs.Ranges.{Fits, IsCase, IsEdge, IsIn, IsSet, Room}
use Rattle.module_build.proofs.CallFits.{called_fits, head_there}
use Rattle.module_build.proofs.Choice.{either}
use Rattle.module_build.proofs.OperandFits.{Stands, block_there, cases_in, count_in, edges_in, indices_in, operand_in, typed_in, whole_path_in}

-- ---- conversions

narrowed_fits : (room : Room) (to : ℕ) (value : Operand) (width : Width) → to < room.registers → IsIn room value → Fits room (narrowed to value width)
narrowed_fits room to value W64 sets is = (sets, is)
narrowed_fits room to value _ sets is = (sets, is)

widened_fits : (room : Room) (to : ℕ) (value : Operand) (width : Width) → to < room.registers → IsIn room value → Fits room (widened to value width)
widened_fits room to value W64 sets is = (sets, is)
widened_fits room to value _ sets is = (sets, is)

converted_fits : (room : Room) (to : ℕ) (cast : Cast) (value : Operand) (from width : Width) → to < room.registers → IsIn room value →
    Fits room (converted to cast value from width)
converted_fits room to Truncate value from width sets is = (sets, is)
converted_fits room to ZeroExtend value from width sets is = (sets, is)
converted_fits room to SignExtend value from width sets is = (sets, is)
converted_fits room to PointerToInteger value from width sets is = narrowed_fits room to value width sets is
converted_fits room to IntegerToPointer value from width sets is = widened_fits room to value from sets is

-- `TYPE OPERAND to TYPE`
convert_fits : (room : Room) (scope : Scope) (to : ℕ) (cast : Cast) (phrases : List (List Told)) → Stands room scope → to < room.registers →
    Fits room (convert scope to cast phrases).value
convert_fits room scope to cast phrases stands sets =
    converted_fits room to cast (operand scope (kind_in (first phrases)) (second phrases)).value (width_of (kind_in (first phrases))) (width_of (kind_in (third phrases)))
    sets (operand_in room scope (kind_in (first phrases)) (second phrases) stands)

-- ---- each instruction

-- it sets the register of the number, where it gives something
abbrev pub Sets : Room → ℕ → Option Kind → Type 0
Sets room to (Some kind) = to < room.registers
Sets room to None = Unit {0}

target_set : (room : Room) (to : ℕ) (result : Option Kind) → Sets room to result → IsSet room (call.target result to)
target_set room to (Some kind) sets = sets
target_set room to None sets = tt

head_result : (room : Room) (scope : Scope) (to : ℕ) (written : Bool) (phrases : List (List Told)) → callee.is_written (second phrases) ≡ written →
    Sets room to (results.call_result (first phrases)) → Sets room to (callee.head_of scope.names phrases).result
head_result room scope to true phrases is sets = rw is sets
head_result room scope to false phrases is sets = rw is sets

fits_by : (terminal : Terminal) (room : Room) (scope : Scope) (to : ℕ) (statement : Statement) → Stands room scope →
    Sets room to (results.result_by terminal (phrases_of statement.operands)) →
    Fits room (instruction_by terminal scope to statement (phrases_of statement.operands)).value
fits_by t.Binary room scope to statement stands sets =
    let phrases = phrases_of statement.operands in
    (sets, operand_in room scope (kind_in (first phrases)) (second phrases) stands, operand_in room scope (kind_in (first phrases)) (third phrases) stands)
fits_by t.Icmp room scope to statement stands sets =
    let phrases = phrases_of statement.operands in
    (sets, operand_in room scope (kind_in (second phrases)) (third phrases) stands, operand_in room scope (kind_in (second phrases)) (fourth phrases) stands)
fits_by t.Cast room scope to statement stands sets =
    convert_fits room scope to (cast_of statement.operation.text) (phrases_of statement.operands) stands sets
fits_by t.IntToPtr room scope to statement stands sets =
    convert_fits room scope to (cast_of statement.operation.text) (phrases_of statement.operands) stands sets
fits_by t.Select room scope to statement stands sets =
    let phrases = phrases_of statement.operands in
    (sets, typed_in room scope phrases stands, typed_in room scope (behind_two phrases) stands, typed_in room scope (behind_two (behind_two phrases)) stands)
fits_by t.Phi room scope to statement stands sets =
    (sets, edges_in room scope (kind_in (first (phrases_of statement.operands))) (record { value = []; cause = None }) (behind (phrases_of statement.operands)) stands (All-nil (IsEdge room)))
fits_by t.Alloca room scope to statement stands sets = (sets, count_in room scope (behind (phrases_of statement.operands)) stands)
fits_by t.Load room scope to statement stands sets = (sets, typed_in room scope (behind (phrases_of statement.operands)) stands)
fits_by t.Store room scope to statement stands sets =
    let phrases = phrases_of statement.operands in
    (typed_in room scope phrases stands, typed_in room scope (behind_two phrases) stands)
fits_by t.GetElementPtr room scope to statement stands sets =
    let phrases = phrases_of statement.operands in (
      sets,
      typed_in room scope (behind phrases) stands,
      whole_path_in room scope.structs (first phrases) (indices_of scope (behind_two (behind phrases)))
          (indices_in room scope [] (behind_two (behind phrases)) stands tt),
    )
fits_by t.Br room scope to statement stands sets =
    let phrases = phrases_of statement.operands in
    either (λ (found : Found Inst). Fits room found.value) (is_name (first phrases)) (branch_to scope (first phrases))
    (branch_if scope (kind_in (first phrases)) (behind phrases))
    (block_there room scope (first phrases) stands) (
      operand_in room scope (kind_in (first phrases)) (first (behind phrases)) stands,
      block_there room scope (second (behind phrases)) stands,
      block_there room scope (third (behind phrases)) stands,
    )
fits_by t.Switch room scope to statement stands sets =
    let phrases = phrases_of statement.operands in (
      typed_in room scope phrases stands,
      block_there room scope (first (behind_two phrases)) stands,
      cases_in room scope (typed scope phrases).kind (record { value = []; cause = None }) (behind (behind_two phrases)) stands (All-nil (IsCase room)),
    )
fits_by t.Ret room scope to statement stands sets =
    let phrases = phrases_of statement.operands in
    either (λ (found : Found Inst). Fits room found.value) (is_void (first phrases)) (ret_void scope)
    (ret_value scope (kind_in (first phrases)) (behind phrases))
    tt (operand_in room scope (kind_in (first phrases)) (first (behind phrases)) stands)
fits_by t.Call room scope to statement stands sets =
    let phrases = phrases_of statement.operands in
    let head = callee.head_of scope.names phrases in
    called_fits room scope (call.target head.result to) head.callee (call.pieces_for scope.names head.callee (callee.arguments_in phrases)) (callee.arguments_in phrases) stands
    (target_set room to head.result (head_result room scope to (callee.is_written (second phrases)) phrases refl sets))
    (head_there room scope (callee.is_written (second phrases)) phrases stands refl)
fits_by t.Unreachable room scope to statement stands sets = tt
fits_by _ room scope to statement stands sets = tt

pub instruction_fits : (room : Room) (scope : Scope) (to : ℕ) (statement : Statement) → Stands room scope →
    Sets room to (results.result_of statement) → Fits room (instruction scope to statement).value
instruction_fits room scope to statement stands sets = fits_by statement.operation.terminal room scope to statement stands sets
