-- What the threads of a process share, and the state after it changed: all that an external call sees or changes.
use Rattle.std.specs.Prelude.{ℕ, Bool, false, List, [], ◌∷◌, map, Option, None}
use Rattle.machine_model.specs.declared.state.Condition.{Condition}
use Rattle.machine_model.specs.declared.state.Lock.{Lock}
use Rattle.machine_model.specs.declared.state.Object.{Object}
use Rattle.machine_model.specs.declared.state.State.{State}
use Rattle.machine_model.specs.declared.state.Thread.{Thread}

-- the end of a thread: its result once it has ended, and whether it was joined
pub record End : Type 0 where
  pub result : Option ℕ
  pub joined : Bool

-- the ends are in order of the threads' numbers
pub record Shared : Type 0 where
  pub objects : List Object
  pub locks : List Lock
  pub conditions : List Condition
  pub ends : List End

abbrev pub end_of : Thread → End
end_of thread = record { result = thread.ended; joined = thread.joined }

-- of a thread that goes on
abbrev pub open_end : End
open_end = record { result = None; joined = false }

abbrev pub shared_of : State → Shared
shared_of state = record {
  objects = state.objects;
  locks = state.locks;
  conditions = state.conditions;
  ends = map end_of state.threads;
}

abbrev pub with_end : Thread → End → Thread
with_end thread end = record thread { ended = end.result; joined = end.joined }

-- the threads with these ends, in order
abbrev pub with_ends : List Thread → List End → List Thread
with_ends [] ends = []
with_ends (thread ∷ threads) [] = thread ∷ threads
with_ends (thread ∷ threads) (end ∷ ends) = with_end thread end ∷ with_ends threads ends

-- the state after its shared part changed; frames, pending operations and the output stay
abbrev pub with_shared : State → Shared → State
with_shared state shared = record {
  threads = with_ends state.threads shared.ends;
  objects = shared.objects;
  locks = shared.locks;
  conditions = shared.conditions;
  output = state.output;
}
