-- The rows of the external calls that POSIX.1 threads and C's output functions give. A call sees what the threads share,
-- the number of the thread that calls, its arguments and the numbers that it decided.
use Rattle.std.specs.Prelude.{ℕ, ◌%◌, Bool, true, false, not, ◌&&◌, ◌==◌, nat_le, List, [], ◌∷◌, ◌++◌, length, slice_get, slice_index, slice_set, unwrap_or, Option, Some, None, is_some, Result, Ok, Err, if◌then◌else◌}
use Rattle.ir_types.specs.declared.external.Extern.{Extern}
use Rattle.ir_types.specs.declared.external.Extern.TheVariants.{Create, Join, ThreadExit, SelfNumber, MutexInit, MutexDestroy, Lock, TryLock, Unlock, CondInit, CondDestroy, CondWait, CondReturn, Signal, Broadcast, Yield, Usleep, Sleep, Malloc, Calloc, Free, Memcpy, Memmove, Memset, Strlen, LlvmMemcpy, LlvmMemmove, LlvmMemset, Putchar, Puts, Printf, Exit, Abort, AssertFail, Input}
use Rattle.ir_types.specs.declared.external.ItemKind.TheVariants.{Byte}
use Rattle.machine_model.specs.declared.state.Object.{Object}
use Rattle.run_types.specs.declared.out_item.OutItem.{OutItem}
use Rattle.run_types.specs.declared.trap.Trap.{Trap}
use Rattle.run_types.specs.declared.trap.Trap.TheVariants.{BadJoin}
use Rattle.machine_model.specs.Effect.{Effect, done_or_traps}
use Rattle.machine_model.specs.Effect.Effect.{Done, Traps, NoRow}
use Rattle.machine_model.specs.Memory.{written}
use Rattle.machine_model.specs.Shared.{End, Shared, open_end}

-- what a call leaves of what is shared; its result, if it is used; what is printed
pub record Returned : Type 0 where
  pub shared : Shared
  pub result : Option ℕ
  pub items : List OutItem

-- a process has at most 16 threads
abbrev pub most_threads : ℕ
most_threads = 16

-- POSIX's EAGAIN
abbrev pub again : ℕ
again = 11

-- which of its decided numbers a row reads: where a created thread's number is stored, the thread that is joined, and
-- where its result is stored
abbrev pub place_in : List ℕ → ℕ
place_in decided = slice_index decided 0

abbrev pub joined_in : List ℕ → ℕ
joined_in decided = slice_index decided 0

abbrev pub result_place_in : List ℕ → ℕ
result_place_in decided = slice_index decided 1

-- the thread was made, and neither has ended nor was joined
abbrev pub is_awaited : Option End → Bool
is_awaited None = false
is_awaited (Some end) = not (is_some end.result) && not end.joined

-- the call of the thread of this number has to wait
unfoldable pub is_blocked : Shared → ℕ → Extern → List ℕ → Bool
is_blocked shared caller (Create function) decided = false
is_blocked shared caller Join decided = is_awaited (slice_get shared.ends (joined_in decided))
is_blocked shared caller ThreadExit decided = false
is_blocked shared caller SelfNumber decided = false
is_blocked shared caller MutexInit decided = false
is_blocked shared caller MutexDestroy decided = false
is_blocked shared caller Lock decided = false
is_blocked shared caller TryLock decided = false
is_blocked shared caller Unlock decided = false
is_blocked shared caller CondInit decided = false
is_blocked shared caller CondDestroy decided = false
is_blocked shared caller CondWait decided = false
is_blocked shared caller CondReturn decided = false
is_blocked shared caller Signal decided = false
is_blocked shared caller Broadcast decided = false
is_blocked shared caller Yield decided = false
is_blocked shared caller Usleep decided = false
is_blocked shared caller Sleep decided = false
is_blocked shared caller Malloc decided = false
is_blocked shared caller Calloc decided = false
is_blocked shared caller Free decided = false
is_blocked shared caller Memcpy decided = false
is_blocked shared caller Memmove decided = false
is_blocked shared caller Memset decided = false
is_blocked shared caller Strlen decided = false
is_blocked shared caller LlvmMemcpy decided = false
is_blocked shared caller LlvmMemmove decided = false
is_blocked shared caller LlvmMemset decided = false
is_blocked shared caller Putchar decided = false
is_blocked shared caller Puts decided = false
is_blocked shared caller (Printf pieces) decided = false
is_blocked shared caller Exit decided = false
is_blocked shared caller Abort decided = false
is_blocked shared caller AssertFail decided = false
is_blocked shared caller (Input slot width) decided = false

-- adds the end of a thread and stores its number; at the limit it stores nothing
abbrev pub created : Shared → ℕ → Effect Returned
created shared at =
    if nat_le most_threads (length shared.ends)
    then Done 0 (record { shared = shared; result = Some again; items = [] })
    else done_or_traps (λ objects. record {
      shared = record shared { objects = objects; ends = shared.ends ++ open_end ∷ [] };
      result = Some 0;
      items = [];
    }) (written shared.objects at 8 (length shared.ends))

abbrev pub result_of : Option End → ℕ
result_of None = 0
result_of (Some end) = unwrap_or end.result 0

-- the objects after a thread's result was stored, where a place for it is given
abbrev pub with_result : List Object → Option End → ℕ → Result (List Object) Trap
with_result objects end at = if at == 0 then Ok objects else written objects at 8 (result_of end)

abbrev pub joined_at : Shared → ℕ → Option End → List Object → Effect Returned
joined_at shared thread None objects = Traps BadJoin
joined_at shared thread (Some end) objects =
    if end.joined then Traps BadJoin
    else Done 0 (record {
      shared = record shared {
        objects = objects;
        ends = slice_set shared.ends thread (record end { joined = true });
      };
      result = Some 0;
      items = [];
    })

abbrev pub joined_or_traps : Shared → ℕ → Option End → Result (List Object) Trap → Effect Returned
joined_or_traps shared thread end (Err trap) = Traps trap
joined_or_traps shared thread end (Ok objects) = joined_at shared thread end objects

-- joins the thread, which is not awaited, and stores its result; a bad address comes before a bad join
abbrev pub joined : Shared → ℕ → ℕ → Effect Returned
joined shared thread at =
    let end = slice_get shared.ends thread in
    joined_or_traps shared thread end (with_result shared.objects end at)

-- prints one byte; its result is used nowhere
abbrev pub printed : Shared → ℕ → Effect Returned
printed shared byte =
    Done 0 (record { shared = shared; result = None; items = record { kind = Byte; bits = byte } ∷ [] })

-- what a call that is not blocked does, with these arguments and its numbers decided
unfoldable pub call_of : Shared → ℕ → Extern → List ℕ → List ℕ → Effect Returned
call_of shared caller (Create function) arguments decided = created shared (place_in decided)
call_of shared caller Join arguments decided = joined shared (joined_in decided) (result_place_in decided)
call_of shared caller Putchar arguments decided = printed shared (slice_index arguments 0 % 256)
call_of shared caller ThreadExit arguments decided = NoRow
call_of shared caller SelfNumber arguments decided = NoRow
call_of shared caller MutexInit arguments decided = NoRow
call_of shared caller MutexDestroy arguments decided = NoRow
call_of shared caller Lock arguments decided = NoRow
call_of shared caller TryLock arguments decided = NoRow
call_of shared caller Unlock arguments decided = NoRow
call_of shared caller CondInit arguments decided = NoRow
call_of shared caller CondDestroy arguments decided = NoRow
call_of shared caller CondWait arguments decided = NoRow
call_of shared caller CondReturn arguments decided = NoRow
call_of shared caller Signal arguments decided = NoRow
call_of shared caller Broadcast arguments decided = NoRow
call_of shared caller Yield arguments decided = NoRow
call_of shared caller Usleep arguments decided = NoRow
call_of shared caller Sleep arguments decided = NoRow
call_of shared caller Malloc arguments decided = NoRow
call_of shared caller Calloc arguments decided = NoRow
call_of shared caller Free arguments decided = NoRow
call_of shared caller Memcpy arguments decided = NoRow
call_of shared caller Memmove arguments decided = NoRow
call_of shared caller Memset arguments decided = NoRow
call_of shared caller Strlen arguments decided = NoRow
call_of shared caller LlvmMemcpy arguments decided = NoRow
call_of shared caller LlvmMemmove arguments decided = NoRow
call_of shared caller LlvmMemset arguments decided = NoRow
call_of shared caller Puts arguments decided = NoRow
call_of shared caller (Printf pieces) arguments decided = NoRow
call_of shared caller Exit arguments decided = NoRow
call_of shared caller Abort arguments decided = NoRow
call_of shared caller AssertFail arguments decided = NoRow
call_of shared caller (Input slot width) arguments decided = NoRow
