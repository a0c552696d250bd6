-- What contracts see of a chooser, and what a choice answers.
use Rattle.std.specs.Prelude.{◌≡◌, ℕ, Bool, false, ◌==◌, List, Option, Some, None}
use Rattle.machine_model.specs.Policy.{Choice, Policy, without_thread}
use Rattle.turn_policy.specs.declared.policy.Choice.{Choice as Answer}

-- a list of turns, and a chooser over it
pub record Listed : Type 0 where
  pub listed : List ℕ
  pub policy : Policy

-- the thread that is chosen and the chooser after it; where there is none nothing changes
abbrev pub Chooses : Option ℕ → Listed → Listed → Option Choice → Type 0
Chooses None before after choice = (choice ≡ None) × (after ≡ before)
Chooses (Some thread) before after choice =
    (choice ≡ Some (record { thread = thread; next = after.policy })) × (after.listed ≡ before.listed)

-- a choice that the code makes, in terms of the definitions
abbrev pub choice_of : Answer → Choice
choice_of answer = record {
  thread = answer.thread;
  next = record { mode = answer.mode; follow = record { position = answer.position; last = Some answer.thread } };
}

abbrev pub is_held : Option ℕ → ℕ → Bool
is_held None thread = false
is_held (Some held) thread = thread == held

-- the threads that may be followed, where one of them may be held
abbrev pub free_threads : Option ℕ → List ℕ → List ℕ
free_threads None threads = threads
free_threads (Some held) threads = without_thread held threads
