-- The chooser of turns. Up to the hold point it follows the recorded turns. While a thread is held it follows
-- them among the other threads. Then it chooses the thread that was held, once, which moves nothing in the list,
-- and follows the recorded turns again.
use Rattle.std.specs.Prelude.{ℕ, true, false, not, ◌==◌, List, filter, option_map, Option, Some, None, if◌then◌else◌}
use Rattle.machine_model.specs.declared.mode.Mode.{Mode}
use Rattle.machine_model.specs.declared.mode.Mode.TheVariants.{Before, Hold, After}
use Rattle.machine_model.specs.Follow.{Follow, Followed, at_front, follow_turns, is_among}

-- by which rule it chooses, how far it is in its list, and the thread that it chose last
pub record Policy : Type 0 where
  pub mode : Mode
  pub follow : Follow

-- a choice, and the chooser after it
pub record Choice : Type 0 where
  pub thread : ℕ
  pub next : Policy

-- the chooser with which a run begins
abbrev pub from_front : Policy
from_front = record { mode = Before; follow = at_front }

-- the chooser holds a thread, or is to choose the one that was held; its place in the list stays
abbrev pub holding : ℕ → Policy → Policy
holding thread policy = record policy { mode = Hold thread }

abbrev pub releasing : ℕ → Policy → Policy
releasing thread policy = record policy { mode = After thread false }

abbrev pub without_thread : ℕ → List ℕ → List ℕ
without_thread thread threads = filter (λ other. not (other == thread)) threads

abbrev pub followed_in : Mode → Followed → Choice
followed_in mode followed =
    record { thread = followed.thread; next = record { mode = mode; follow = followed.next } }

abbrev pub released : ℕ → Follow → Choice
released thread follow = record {
  thread = thread;
  next = record { mode = After thread true; follow = record follow { last = Some thread } };
}

abbrev pub choose_in : Mode → List ℕ → Follow → List ℕ → Option Choice
choose_in Before listed follow enabled = option_map (followed_in Before) (follow_turns listed follow enabled)
choose_in (Hold thread) listed follow enabled =
    option_map (followed_in (Hold thread)) (follow_turns listed follow (without_thread thread enabled))
choose_in (After thread false) listed follow enabled =
    if is_among enabled thread then Some (released thread follow) else None
choose_in (After thread true) listed follow enabled =
    option_map (followed_in (After thread true)) (follow_turns listed follow enabled)

-- its choice among the enabled threads, if it may choose one of them
unfoldable pub choose : List ℕ → Policy → List ℕ → Option Choice
choose listed policy enabled = choose_in policy.mode listed policy.follow enabled
