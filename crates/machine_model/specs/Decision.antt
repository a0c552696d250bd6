-- The numbers that an instruction decides, one after another, whether or not they depend on the input. First come
-- addresses and thread numbers by argument, which a visible instruction decides when it becomes pending; then sizes,
-- lengths, outcomes and the bytes of strings, which it decides when it runs, and each of which may rest on those
-- before it.
use Rattle.std.specs.Prelude.{ℕ, zero, suc, ◌%◌, ◌^◌, Bool, true, false, List, [], ◌∷◌, ◌++◌, map, slice_index, Option, Some, None, Result, Ok, Err, if◌then◌else◌}
use Rattle.ir_types.specs.declared.instruction.Inst.{Inst}
use Rattle.ir_types.specs.declared.instruction.Inst.TheVariants.{Binary, Compare, Convert, Same, Select, Phi, Alloca, Load, Store, Address, Branch, BranchIf, Switch, Ret, Unreachable, Call, External}
use Rattle.ir_types.specs.declared.instruction.Operand.{Operand}
use Rattle.ir_types.specs.declared.external.Extern.{Extern}
use Rattle.ir_types.specs.declared.external.Extern.TheVariants.{Create, Join, ThreadExit, SelfNumber, MutexInit, MutexDestroy, Lock, TryLock, Unlock, CondInit, CondDestroy, CondWait, CondReturn, Signal, Broadcast, Yield, Usleep, Sleep, Malloc, Calloc, Free, Memcpy, Memmove, Memset, Strlen, LlvmMemcpy, LlvmMemmove, LlvmMemset, Putchar, Puts, Printf, Exit, Abort, AssertFail, Input}
use Rattle.ir_types.specs.declared.operation.BinOp.{BinOp}
use Rattle.ir_types.specs.declared.operation.BinOp.TheVariants.{Add, Sub, Mul, And, Or, Xor, Udiv, Urem, Sdiv, Srem, Shl, Lshr, Ashr}
use Rattle.ir_types.specs.declared.operation.OpTrap.{OpTrap}
use Rattle.ir_types.specs.declared.operation.OpTrap.TheVariants.{DivZero, DivOverflow, Overshift}
use Rattle.ir_types.specs.declared.«module».Module.{Module}
use Rattle.ir_types.specs.Operation.{binary_value}
use Rattle.ir_types.specs.Total.{total_value}
use Rattle.ir_types.specs.Width.{bits_of}
use Rattle.machine_model.specs.declared.state.Frame.{Frame}
use Rattle.machine_model.specs.declared.state.Object.{Object}
use Rattle.machine_model.specs.Thread.{value_of, width_of_operand}

-- of a call, by its arguments: the attribute and the argument of a created thread aren't used as addresses, and the
-- place for a joined thread's result is one also where it is null
unfoldable pub addresses_of_call : Extern → List ℕ → List ℕ
addresses_of_call (Create function) arguments = slice_index arguments 0 ∷ []
addresses_of_call Join arguments = slice_index arguments 0 ∷ slice_index arguments 1 ∷ []
addresses_of_call ThreadExit arguments = []
addresses_of_call SelfNumber arguments = []
addresses_of_call MutexInit arguments = []
addresses_of_call MutexDestroy arguments = []
addresses_of_call Lock arguments = []
addresses_of_call TryLock arguments = []
addresses_of_call Unlock arguments = []
addresses_of_call CondInit arguments = []
addresses_of_call CondDestroy arguments = []
addresses_of_call CondWait arguments = []
addresses_of_call CondReturn arguments = []
addresses_of_call Signal arguments = []
addresses_of_call Broadcast arguments = []
addresses_of_call Yield arguments = []
addresses_of_call Usleep arguments = []
addresses_of_call Sleep arguments = []
addresses_of_call Malloc arguments = []
addresses_of_call Calloc arguments = []
addresses_of_call Free arguments = []
addresses_of_call Memcpy arguments = []
addresses_of_call Memmove arguments = []
addresses_of_call Memset arguments = []
addresses_of_call Strlen arguments = []
addresses_of_call LlvmMemcpy arguments = []
addresses_of_call LlvmMemmove arguments = []
addresses_of_call LlvmMemset arguments = []
addresses_of_call Putchar arguments = []
addresses_of_call Puts arguments = []
addresses_of_call (Printf pieces) arguments = []
addresses_of_call Exit arguments = []
addresses_of_call Abort arguments = []
addresses_of_call AssertFail arguments = []
addresses_of_call (Input slot width) arguments = []

-- the addresses and thread numbers of an instruction
unfoldable pub addresses_of : Frame → Inst → List ℕ
addresses_of frame (Binary to op a b) = []
addresses_of frame (Compare to op a b) = []
addresses_of frame (Convert to op a width) = []
addresses_of frame (Same to a) = []
addresses_of frame (Select to c a b) = []
addresses_of frame (Phi to edges) = []
addresses_of frame (Alloca to unit count) = []
addresses_of frame (Load to kind at) = value_of frame at ∷ []
addresses_of frame (Store kind value at) = value_of frame at ∷ []
addresses_of frame (Address to base fixed scaled) = []
addresses_of frame (Branch block) = []
addresses_of frame (BranchIf c one other) = []
addresses_of frame (Switch value default cases) = []
addresses_of frame (Ret value) = []
addresses_of frame Unreachable = []
addresses_of frame (Call to function arguments) = []
addresses_of frame (External to which arguments) = addresses_of_call which (map (value_of frame) arguments)

-- what two operands of one width give, of each its lowest bits
abbrev pub value_of_binary : Module → Frame → BinOp → Operand → Operand → Result ℕ OpTrap
value_of_binary code frame op a b =
    let width = bits_of (width_of_operand code frame a) in
    binary_value op width (value_of frame a % 2 ^ width) (value_of frame b % 2 ^ width)

-- what they give where the operation traps, too: so what is set is a value of the operands, whatever was decided
abbrev pub total_of_binary : Module → Frame → BinOp → Operand → Operand → ℕ
total_of_binary code frame op a b =
    let width = bits_of (width_of_operand code frame a) in
    total_value op width (value_of frame a % 2 ^ width) (value_of frame b % 2 ^ width)

-- divisions and shifts are tested for a trap
abbrev pub is_tested : BinOp → Bool
is_tested Udiv = true
is_tested Urem = true
is_tested Sdiv = true
is_tested Srem = true
is_tested Shl = true
is_tested Lshr = true
is_tested Ashr = true
is_tested Add = false
is_tested Sub = false
is_tested Mul = false
is_tested And = false
is_tested Or = false
is_tested Xor = false

-- the outcome of a trap test
abbrev pub test_of : Result ℕ OpTrap → ℕ
test_of (Ok value) = 0
test_of (Err DivZero) = 1
test_of (Err DivOverflow) = 2
test_of (Err Overshift) = 1

-- a single number, unless it was decided
abbrev pub once : ℕ → List ℕ → Option ℕ
once number [] = Some number
once number (first ∷ later) = None

-- the number that an instruction decides next, after those that it has decided since its addresses; none where it has
-- decided all of them
unfoldable pub next_number : Module → List Object → Frame → List ℕ → Inst → List ℕ → Option ℕ
next_number code objects frame addresses (Binary to op a b) decided =
    if is_tested op then once (test_of (value_of_binary code frame op a b)) decided else None
next_number code objects frame addresses (Compare to op a b) decided = None
next_number code objects frame addresses (Convert to op a width) decided = None
next_number code objects frame addresses (Same to a) decided = None
next_number code objects frame addresses (Select to c a b) decided = None
next_number code objects frame addresses (Phi to edges) decided = None
next_number code objects frame addresses (Alloca to unit count) decided = None
next_number code objects frame addresses (Load to kind at) decided = None
next_number code objects frame addresses (Store kind value at) decided = None
next_number code objects frame addresses (Address to base fixed scaled) decided = None
next_number code objects frame addresses (Branch block) decided = None
next_number code objects frame addresses (BranchIf c one other) decided = None
next_number code objects frame addresses (Switch value default cases) decided = None
next_number code objects frame addresses (Ret value) decided = None
next_number code objects frame addresses Unreachable decided = None
next_number code objects frame addresses (Call to function arguments) decided = None
next_number code objects frame addresses (External to which arguments) decided = None

abbrev pub number_then : (List ℕ → List ℕ) → List ℕ → Option ℕ → List ℕ
number_then go decided None = decided
number_then go decided (Some number) = go (decided ++ number ∷ [])

-- the numbers decided one after another, of which there are at most `most` beyond these
unfoldable pub numbers_within : ℕ → (List ℕ → Option ℕ) → List ℕ → List ℕ
numbers_within zero next decided = decided
numbers_within (suc most) next decided = number_then (numbers_within most next) decided (next decided)

-- no instruction decides more numbers after its addresses
abbrev pub most_numbers : ℕ
most_numbers = 1

-- all numbers that an instruction decides after its addresses
abbrev pub numbers_of : Module → List Object → Frame → List ℕ → Inst → List ℕ
numbers_of code objects frame addresses inst =
    numbers_within most_numbers (next_number code objects frame addresses inst) []
