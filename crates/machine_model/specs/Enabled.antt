-- Which threads may be chosen: those that have not ended and whose pending operation is not blocked.
use Rattle.std.specs.Prelude.{ℕ, Bool, false, not, ◌&&◌, List, length, filter, slice_get, Option, Some, None}
use Rattle.std.specs.List.{range_with_len}
use Rattle.ir_types.specs.declared.instruction.Inst.{Inst}
use Rattle.ir_types.specs.declared.instruction.Inst.TheVariants.{Binary, Compare, Convert, Same, Select, Phi, Alloca, Load, Store, Address, Branch, BranchIf, Switch, Ret, Unreachable, Call, External}
use Rattle.ir_types.specs.declared.«module».Module.{Module}
use Rattle.machine_model.specs.declared.state.Frame.{Frame}
use Rattle.machine_model.specs.declared.state.Operation.{Operation}
use Rattle.machine_model.specs.declared.state.Operation.TheVariants.{Start, At, CondReturn, Nothing}
use Rattle.machine_model.specs.declared.state.State.{State}
use Rattle.machine_model.specs.declared.state.Thread.{Thread}
use Rattle.machine_model.specs.Call.{is_blocked}
use Rattle.machine_model.specs.Code.{Placed, next_in}
use Rattle.machine_model.specs.Shared.{Shared, shared_of}
use Rattle.machine_model.specs.Thread.{top, has_ended}

-- only calls wait
unfoldable pub waits_for : Shared → ℕ → List ℕ → Inst → Bool
waits_for shared number decided (Binary to op a b) = false
waits_for shared number decided (Compare to op a b) = false
waits_for shared number decided (Convert to op a width) = false
waits_for shared number decided (Same to a) = false
waits_for shared number decided (Select to c a b) = false
waits_for shared number decided (Phi to edges) = false
waits_for shared number decided (Alloca to unit count) = false
waits_for shared number decided (Load to kind at) = false
waits_for shared number decided (Store kind value at) = false
waits_for shared number decided (Address to base fixed scaled) = false
waits_for shared number decided (Branch block) = false
waits_for shared number decided (BranchIf c one other) = false
waits_for shared number decided (Switch value default cases) = false
waits_for shared number decided (Ret value) = false
waits_for shared number decided Unreachable = false
waits_for shared number decided (Call to function arguments) = false
waits_for shared number decided (External to which arguments) = is_blocked shared number which decided

abbrev pub waits_at : Shared → ℕ → List ℕ → Option Placed → Bool
waits_at shared number decided None = false
waits_at shared number decided (Some placed) = waits_for shared number decided placed.inst

abbrev pub waits_in : Module → Shared → ℕ → List ℕ → Option Frame → Bool
waits_in code shared number decided None = false
waits_in code shared number decided (Some frame) = waits_at shared number decided (next_in code frame)

-- the operation of the thread, which has this number, has to wait
unfoldable pub has_to_wait : Module → Shared → ℕ → Thread → Operation → Bool
has_to_wait code shared number thread Start = false
has_to_wait code shared number thread (At site decided) = waits_in code shared number decided (top thread)
has_to_wait code shared number thread (CondReturn site decided) = false
has_to_wait code shared number thread Nothing = false

abbrev pub may_run : Module → Shared → ℕ → Option Thread → Bool
may_run code shared number None = false
may_run code shared number (Some thread) =
    not (has_ended thread) && not (has_to_wait code shared number thread thread.pending)

-- the thread was made, has not ended, and its pending operation is not blocked
unfoldable pub is_enabled : Module → State → ℕ → Bool
is_enabled code state number = may_run code (shared_of state) number (slice_get state.threads number)

-- the numbers of the threads that are enabled, rising
unfoldable pub enabled : Module → State → List ℕ
enabled code state = filter (is_enabled code state) (range_with_len 0 (length state.threads))
