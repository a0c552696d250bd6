-- What the operation does with which a turn begins: the start of its thread, or a visible instruction.
use Rattle.std.specs.Prelude.{ℕ, ◌+◌, ◌%◌, Bool, true, false, ◌&&◌, ◌==◌, nat_lt, List, [], ◌∷◌, ◌++◌, length, map, slice_get, slice_index, slice_set, Option, Some, None, if◌then◌else◌}
use Rattle.std.specs.List.{list_any, list_all}
use Rattle.ir_types.specs.declared.external.Extern.{Extern}
use Rattle.ir_types.specs.declared.external.Extern.TheVariants.{Create, Join, ThreadExit, SelfNumber, MutexInit, MutexDestroy, Lock, TryLock, Unlock, CondInit, CondDestroy, CondWait, CondReturn, Signal, Broadcast, Yield, Usleep, Sleep, Malloc, Calloc, Free, Memcpy, Memmove, Memset, Strlen, LlvmMemcpy, LlvmMemmove, LlvmMemset, Putchar, Puts, Printf, Exit, Abort, AssertFail, Input}
use Rattle.ir_types.specs.declared.external.ItemKind.TheVariants.{Status}
use Rattle.ir_types.specs.declared.instruction.Inst.{Inst}
use Rattle.ir_types.specs.declared.instruction.Inst.TheVariants.{Binary, Compare, Convert, Same, Select, Phi, Alloca, Load, Store, Address, Branch, BranchIf, Switch, Ret, Unreachable, Call, External}
use Rattle.ir_types.specs.declared.instruction.Operand.{Operand}
use Rattle.ir_types.specs.declared.instruction.Site.{Site}
use Rattle.ir_types.specs.declared.«module».Module.{Module}
use Rattle.machine_model.specs.declared.state.Frame.{Frame}
use Rattle.machine_model.specs.declared.state.Operation.TheVariants.{Nothing}
use Rattle.machine_model.specs.declared.state.State.{State}
use Rattle.machine_model.specs.declared.state.Thread.{Thread}
use Rattle.machine_model.specs.Call.{Returned, is_blocked, call_of}
use Rattle.machine_model.specs.Effect.{Effect, Footprint, mapped}
use Rattle.machine_model.specs.Effect.Effect.{Done, Pauses, Exits, Traps, Blocks, NoRow}
use Rattle.machine_model.specs.Instruction.{effect_of}
use Rattle.machine_model.specs.Memory.{without}
use Rattle.machine_model.specs.Setting.{Setting}
use Rattle.machine_model.specs.Shared.{Shared, shared_of, with_shared}
use Rattle.machine_model.specs.Thread.{made, with_top, has_ended, value_of, moved_on_after}

-- the calls by which threads meet or wait, and those that print or end the process
unfoldable pub is_visible_call : Extern → Bool
is_visible_call (Create function) = true
is_visible_call Join = true
is_visible_call ThreadExit = true
is_visible_call SelfNumber = false
is_visible_call MutexInit = true
is_visible_call MutexDestroy = true
is_visible_call Lock = true
is_visible_call TryLock = true
is_visible_call Unlock = true
is_visible_call CondInit = true
is_visible_call CondDestroy = true
is_visible_call CondWait = true
is_visible_call CondReturn = true
is_visible_call Signal = true
is_visible_call Broadcast = true
is_visible_call Yield = true
is_visible_call Usleep = true
is_visible_call Sleep = true
is_visible_call Malloc = false
is_visible_call Calloc = false
is_visible_call Free = false
is_visible_call Memcpy = false
is_visible_call Memmove = false
is_visible_call Memset = false
is_visible_call Strlen = false
is_visible_call LlvmMemcpy = false
is_visible_call LlvmMemmove = false
is_visible_call LlvmMemset = false
is_visible_call Putchar = true
is_visible_call Puts = true
is_visible_call (Printf pieces) = true
is_visible_call Exit = true
is_visible_call Abort = false
is_visible_call AssertFail = false
is_visible_call (Input slot width) = false

abbrev pub is_watched : List Site → Site → Bool
is_watched watch site = list_any (λ other. (other.function == site.function) && (other.inst == site.inst)) watch

-- the return from a thread's first frame is its end
abbrev pub is_last_frame : Thread → Bool
is_last_frame thread = length thread.frames == 1

-- the instruction waits for a turn of its own: the end of a thread, a visible call, or a watched access
unfoldable pub is_visible : List Site → Thread → Site → Inst → Bool
is_visible watch thread site (Binary to op a b) = false
is_visible watch thread site (Compare to op a b) = false
is_visible watch thread site (Convert to op a width) = false
is_visible watch thread site (Same to a) = false
is_visible watch thread site (Select to c a b) = false
is_visible watch thread site (Phi to edges) = false
is_visible watch thread site (Alloca to unit count) = false
is_visible watch thread site (Load to kind at) = is_watched watch site
is_visible watch thread site (Store kind value at) = is_watched watch site
is_visible watch thread site (Address to base fixed scaled) = false
is_visible watch thread site (Branch block) = false
is_visible watch thread site (BranchIf c one other) = false
is_visible watch thread site (Switch value default cases) = false
is_visible watch thread site (Ret value) = is_last_frame thread
is_visible watch thread site Unreachable = false
is_visible watch thread site (Call to function arguments) = false
is_visible watch thread site (External to which arguments) = is_visible_call which

-- the exit status is the last item of the output
abbrev pub with_status : State → ℕ → State
with_status state status =
    record state { output = state.output ++ record { kind = Status; bits = status } ∷ [] }

abbrev pub ended : Thread → ℕ → Thread
ended thread result = record thread { frames = []; pending = Nothing; ended = Some result }

-- the last thread that ends ends the process
abbrev pub unless_last : State → Effect State
unless_last state =
    if list_all has_ended state.threads then Exits 0 0 (with_status state 0) else Done 0 state

abbrev pub result_of_return : Frame → Option Operand → ℕ
result_of_return frame None = 0
result_of_return frame (Some operand) = value_of frame operand

-- main's end ends the process with its result; another thread's end leaves its result
abbrev pub ends_with : State → ℕ → Thread → Frame → ℕ → Effect State
ends_with state number thread frame result =
    if number == 0 then Exits 0 (result % 256) (with_status state (result % 256))
    else unless_last (record state {
      threads = slice_set state.threads number (ended thread result);
      objects = without frame.stack state.objects;
    })

abbrev pub with_frame : State → ℕ → Frame → Option Thread → State
with_frame state number frame None = state
with_frame state number frame (Some thread) =
    record state { threads = slice_set state.threads number (with_top thread frame) }

-- the threads that a call creates, which wait to start
unfoldable pub made_by : Module → Extern → List ℕ → List Thread
made_by code (Create function) arguments = made code function (slice_index arguments 2 ∷ []) ∷ []
made_by code Join arguments = []
made_by code ThreadExit arguments = []
made_by code SelfNumber arguments = []
made_by code MutexInit arguments = []
made_by code MutexDestroy arguments = []
made_by code Lock arguments = []
made_by code TryLock arguments = []
made_by code Unlock arguments = []
made_by code CondInit arguments = []
made_by code CondDestroy arguments = []
made_by code CondWait arguments = []
made_by code CondReturn arguments = []
made_by code Signal arguments = []
made_by code Broadcast arguments = []
made_by code Yield arguments = []
made_by code Usleep arguments = []
made_by code Sleep arguments = []
made_by code Malloc arguments = []
made_by code Calloc arguments = []
made_by code Free arguments = []
made_by code Memcpy arguments = []
made_by code Memmove arguments = []
made_by code Memset arguments = []
made_by code Strlen arguments = []
made_by code LlvmMemcpy arguments = []
made_by code LlvmMemmove arguments = []
made_by code LlvmMemset arguments = []
made_by code Putchar arguments = []
made_by code Puts arguments = []
made_by code (Printf pieces) arguments = []
made_by code Exit arguments = []
made_by code Abort arguments = []
made_by code AssertFail arguments = []
made_by code (Input slot width) arguments = []

-- the state after a call has changed what is shared: each thread has its end, and where the call added an end the
-- thread is there that it created
unfoldable pub changed_by : State → List Thread → Shared → State
changed_by state others shared =
    let after = with_shared state shared in
    if nat_lt (length state.threads) (length shared.ends)
    then record after { threads = after.threads ++ others } else after

-- the caller goes on with the result, and what the call prints is added to the output
abbrev pub after_call : State → List Thread → ℕ → Frame → Option ℕ → Returned → State
after_call before others number frame to call =
    let state = changed_by before others call.shared in
    let after = with_frame state number (moved_on_after frame to call.result) (slice_get state.threads number) in
    record after { output = before.output ++ call.items }

-- each item that is printed costs 1
abbrev pub charged_for_items : (Returned → State) → Effect Returned → Effect State
charged_for_items after (Done more call) = Done (length call.items + more) (after call)
charged_for_items after (Pauses more call) = Pauses (length call.items + more) (after call)
charged_for_items after (Exits more status call) = Exits (length call.items + more) status (after call)
charged_for_items after (Traps trap) = Traps trap
charged_for_items after Blocks = Blocks
charged_for_items after NoRow = NoRow

abbrev pub put_back : State → ℕ → Footprint → State
put_back state number footprint =
    record state { threads = slice_set state.threads number footprint.thread; objects = footprint.objects }

abbrev pub footprint_of : State → Thread → Footprint
footprint_of state thread = record { thread = thread; objects = state.objects }

-- a visible instruction that changes only its thread and the objects
abbrev pub on_footprint : Setting → State → ℕ → Thread → Frame → List ℕ → Inst → Effect State
on_footprint setting state number thread frame decided inst =
    mapped (put_back state number) (effect_of setting number (footprint_of state thread) frame decided inst)

-- what a visible instruction does, its numbers decided
unfoldable pub visible_effect : Setting → State → ℕ → Thread → Frame → List ℕ → Inst → Effect State
visible_effect setting state number thread frame decided (Binary to op a b) =
    on_footprint setting state number thread frame decided (Binary to op a b)
visible_effect setting state number thread frame decided (Compare to op a b) =
    on_footprint setting state number thread frame decided (Compare to op a b)
visible_effect setting state number thread frame decided (Convert to op a width) =
    on_footprint setting state number thread frame decided (Convert to op a width)
visible_effect setting state number thread frame decided (Same to a) =
    on_footprint setting state number thread frame decided (Same to a)
visible_effect setting state number thread frame decided (Select to c a b) =
    on_footprint setting state number thread frame decided (Select to c a b)
visible_effect setting state number thread frame decided (Phi to edges) =
    on_footprint setting state number thread frame decided (Phi to edges)
visible_effect setting state number thread frame decided (Alloca to unit count) =
    on_footprint setting state number thread frame decided (Alloca to unit count)
visible_effect setting state number thread frame decided (Load to kind at) =
    on_footprint setting state number thread frame decided (Load to kind at)
visible_effect setting state number thread frame decided (Store kind value at) =
    on_footprint setting state number thread frame decided (Store kind value at)
visible_effect setting state number thread frame decided (Address to base fixed scaled) =
    on_footprint setting state number thread frame decided (Address to base fixed scaled)
visible_effect setting state number thread frame decided (Branch block) =
    on_footprint setting state number thread frame decided (Branch block)
visible_effect setting state number thread frame decided (BranchIf c one other) =
    on_footprint setting state number thread frame decided (BranchIf c one other)
visible_effect setting state number thread frame decided (Switch value default cases) =
    on_footprint setting state number thread frame decided (Switch value default cases)
visible_effect setting state number thread frame decided (Ret value) =
    ends_with state number thread frame (result_of_return frame value)
visible_effect setting state number thread frame decided Unreachable =
    on_footprint setting state number thread frame decided Unreachable
visible_effect setting state number thread frame decided (Call to function arguments) =
    on_footprint setting state number thread frame decided (Call to function arguments)
visible_effect setting state number thread frame decided (External to which arguments) =
    let values = map (value_of frame) arguments in
    if is_blocked (shared_of state) number which decided then Blocks
    else charged_for_items (after_call state (made_by setting.code which values) number frame to)
    (call_of (shared_of state) number which values decided)
