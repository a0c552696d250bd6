-- What the code of external calls answers.
use Rattle.std.specs.Prelude.{◌≡◌, ℕ, ◌<◌, ◌==◌, List, [], length, slice_get, Option, Some, None, Result, Ok, Err, option_to_list, unwrap_or, if◌then◌else◌}
use Rattle.ir_types.specs.declared.external.Extern.{Extern}
use Rattle.ir_types.specs.declared.external.Extern.TheVariants.{Create, Join, ThreadExit, SelfNumber, MutexInit, MutexDestroy, Lock, TryLock, Unlock, CondInit, CondDestroy, CondWait, CondReturn, Signal, Broadcast, Yield, Usleep, Sleep, Malloc, Calloc, Free, Memcpy, Memmove, Memset, Strlen, LlvmMemcpy, LlvmMemmove, LlvmMemset, Putchar, Puts, Printf, Exit, Abort, AssertFail, Input}
use Rattle.machine_model.specs.declared.state.Frame.{Frame}
use Rattle.machine_model.specs.declared.state.Object.{Object}
use Rattle.machine_model.specs.declared.state.State.{State}
use Rattle.machine_model.specs.declared.state.Thread.{Thread}
use Rattle.run_types.specs.declared.trap.Trap.{Trap}
use Rattle.machine_model.specs.Call.{Returned}
use Rattle.machine_model.specs.Effect.{Effect}
use Rattle.machine_model.specs.Effect.Effect.{Done, Traps, NoRow}
use Rattle.machine_model.specs.Memory.{written}
use Rattle.machine_model.specs.Operation.{changed_by}
use Rattle.machine_model.specs.Shared.{shared_of}
use Rattle.concrete_machine.specs.declared.call.Called.{Called}
use Rattle.concrete_machine.specs.declared.call.Called.TheVariants as calls

-- what a call answers that creates these threads, if it creates any: the result and what is printed, with the state that
-- it leaves
abbrev pub Calls : Called → List Thread → State → State → Effect Returned → Type 0
Calls (calls.Returns result item) others before after effect =
    (effect ≡ Done 0 (record { shared = shared_of after; result = result; items = option_to_list item }))
    × (after ≡ changed_by before others (shared_of after))
Calls (calls.Traps trap) others before after effect = (effect ≡ Traps trap) × (after ≡ before)
Calls calls.NoRow others before after effect = (effect ≡ NoRow) × (after ≡ before)

-- how many items a call printed
abbrev pub Prints : ℕ → Called → Type 0
Prints count (calls.Returns result item) = length (option_to_list item) ≡ count
Prints count (calls.Traps trap) = Unit {0}
Prints count calls.NoRow = Unit {0}

abbrev pub frames_of : Option Thread → List Frame
frames_of None = []
frames_of (Some thread) = thread.frames

-- the threads that there were have their frames
abbrev pub KeepsFrames : List Thread → List Thread → Type 0
KeepsFrames before after =
    (number : ℕ) → number < length before → frames_of (slice_get after number) ≡ frames_of (slice_get before number)

-- the result of a thread that may be joined
abbrev pub joinable : Option Thread → Option ℕ
joinable None = None
joinable (Some thread) = if thread.joined then None else Some (unwrap_or thread.ended 0)

-- the objects after a thread's result was stored, where a place for it is given
abbrev pub stored : List Object → ℕ → ℕ → Result (List Object) Trap
stored objects at number = if at == 0 then Ok objects else written objects at 8 number

-- the trap that comes first
abbrev pub trap_or : {A : Type 0} → Trap → Result A Trap → Trap
trap_or later (Ok value) = later
trap_or later (Err trap) = trap

-- what a write that is only tried answers
abbrev pub Refuses : {A : Type 0} → Option Trap → Result A Trap → Type 0
Refuses None (Ok value) = Unit {0}
Refuses None (Err trap) = ⊥
Refuses (Some trap) tried = tried ≡ Err trap

-- how many items a call prints; none where there is no row for it yet
abbrev pub items_of_call : Extern → ℕ
items_of_call (Create function) = 0
items_of_call Join = 0
items_of_call ThreadExit = 0
items_of_call SelfNumber = 0
items_of_call MutexInit = 0
items_of_call MutexDestroy = 0
items_of_call Lock = 0
items_of_call TryLock = 0
items_of_call Unlock = 0
items_of_call CondInit = 0
items_of_call CondDestroy = 0
items_of_call CondWait = 0
items_of_call CondReturn = 0
items_of_call Signal = 0
items_of_call Broadcast = 0
items_of_call Yield = 0
items_of_call Usleep = 0
items_of_call Sleep = 0
items_of_call Malloc = 0
items_of_call Calloc = 0
items_of_call Free = 0
items_of_call Memcpy = 0
items_of_call Memmove = 0
items_of_call Memset = 0
items_of_call Strlen = 0
items_of_call LlvmMemcpy = 0
items_of_call LlvmMemmove = 0
items_of_call LlvmMemset = 0
items_of_call Putchar = 1
items_of_call Puts = 0
items_of_call (Printf pieces) = 0
items_of_call Exit = 0
items_of_call Abort = 0
items_of_call AssertFail = 0
items_of_call (Input slot width) = 0
