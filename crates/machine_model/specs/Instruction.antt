-- The rows of the instructions that change only their thread and the objects.
use Rattle.std.specs.Prelude.{ℕ, ◌%◌, ◌^◌, ◌==◌, List, slice_index, Option, Some, None, Result, Ok, Err, if◌then◌else◌}
use Rattle.ir_types.specs.declared.instruction.Inst.{Inst}
use Rattle.ir_types.specs.declared.instruction.Inst.TheVariants.{Binary, Compare, Convert, Same, Select, Phi, Alloca, Load, Store, Address, Branch, BranchIf, Switch, Ret, Unreachable, Call, External}
use Rattle.ir_types.specs.declared.operation.BinOp.{BinOp}
use Rattle.ir_types.specs.declared.operation.BinOp.TheVariants.{Add, Sub, Mul, And, Or, Xor, Udiv, Urem, Sdiv, Srem, Shl, Lshr, Ashr}
use Rattle.ir_types.specs.declared.operation.OpTrap.{OpTrap}
use Rattle.ir_types.specs.Kind.{width_of, size_of}
use Rattle.ir_types.specs.Width.{bits_of}
use Rattle.machine_model.specs.declared.state.Frame.{Frame}
use Rattle.machine_model.specs.declared.state.Object.{Object}
use Rattle.run_types.specs.declared.trap.Trap.{Trap}
use Rattle.run_types.specs.declared.trap.Trap.TheVariants.{DivZero, DivOverflow, Overshift}
use Rattle.machine_model.specs.Decision.{total_of_binary}
use Rattle.machine_model.specs.Effect.{Effect, Footprint, done_or_traps}
use Rattle.machine_model.specs.Effect.Effect.{Done, Traps, NoRow}
use Rattle.machine_model.specs.Memory.{read, written}
use Rattle.machine_model.specs.Setting.{Setting}
use Rattle.machine_model.specs.Thread.{moved_on, moved_on_with, with_top, value_of}

-- each row says which of its decided numbers it reads: the address of an access, or the outcome of a trap test, which
-- is 0 where there is no test
abbrev pub address_in : List ℕ → ℕ
address_in decided = slice_index decided 0

abbrev pub test_in : List ℕ → ℕ
test_in decided = slice_index decided 0

-- the trap that the outcome of a test means
abbrev pub trap_of_division : ℕ → Option Trap
trap_of_division test = if test == 0 then None else if test == 1 then Some DivZero else Some DivOverflow

abbrev pub trap_of_shift : ℕ → Option Trap
trap_of_shift test = if test == 0 then None else Some Overshift

abbrev pub trap_of_test : BinOp → ℕ → Option Trap
trap_of_test Add test = None
trap_of_test Sub test = None
trap_of_test Mul test = None
trap_of_test And test = None
trap_of_test Or test = None
trap_of_test Xor test = None
trap_of_test Udiv test = trap_of_division test
trap_of_test Urem test = trap_of_division test
trap_of_test Sdiv test = trap_of_division test
trap_of_test Srem test = trap_of_division test
trap_of_test Shl test = trap_of_shift test
trap_of_test Lshr test = trap_of_shift test
trap_of_test Ashr test = trap_of_shift test

abbrev pub done_unless : {S : Type 0} → S → Option Trap → Effect S
done_unless after None = Done 0 after
done_unless after (Some trap) = Traps trap

-- the instruction has set a register
abbrev pub sets : Footprint → Frame → ℕ → ℕ → Footprint
sets footprint frame to value =
    record footprint { thread = with_top footprint.thread (moved_on_with frame to value) }

-- the instruction has changed memory
abbrev pub stores : Footprint → Frame → List Object → Footprint
stores footprint frame objects =
    record { thread = with_top footprint.thread (moved_on frame); objects = objects }

-- what an instruction of the frame that runs does to its thread, of this number, and the objects. Whether it traps,
-- where it reads and writes, and what it costs rest on the decided numbers alone; values rest on registers and memory
unfoldable pub effect_of : Setting → ℕ → Footprint → Frame → List ℕ → Inst → Effect Footprint
effect_of setting number footprint frame decided (Binary to op a b) =
    done_unless (sets footprint frame to (total_of_binary setting.code frame op a b))
    (trap_of_test op (test_in decided))
effect_of setting number footprint frame decided (Load to kind at) =
    done_or_traps (λ value. sets footprint frame to (value % 2 ^ bits_of (width_of kind)))
    (read footprint.objects (address_in decided) (size_of kind))
effect_of setting number footprint frame decided (Store kind value at) =
    done_or_traps (stores footprint frame)
    (written footprint.objects (address_in decided) (size_of kind)
    (value_of frame value % 2 ^ bits_of (width_of kind)))
effect_of setting number footprint frame decided (Compare to op a b) = NoRow
effect_of setting number footprint frame decided (Convert to op a width) = NoRow
effect_of setting number footprint frame decided (Same to a) = NoRow
effect_of setting number footprint frame decided (Select to c a b) = NoRow
effect_of setting number footprint frame decided (Phi to edges) = NoRow
effect_of setting number footprint frame decided (Alloca to unit count) = NoRow
effect_of setting number footprint frame decided (Address to base fixed scaled) = NoRow
effect_of setting number footprint frame decided (Branch block) = NoRow
effect_of setting number footprint frame decided (BranchIf c one other) = NoRow
effect_of setting number footprint frame decided (Switch value default cases) = NoRow
effect_of setting number footprint frame decided (Ret value) = NoRow
effect_of setting number footprint frame decided Unreachable = NoRow
effect_of setting number footprint frame decided (Call to function arguments) = NoRow
effect_of setting number footprint frame decided (External to which arguments) = NoRow
