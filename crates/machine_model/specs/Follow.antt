-- Following a list of turns. Threads are taken from the list in order, and an entry whose thread is not among
-- those that may be chosen at that moment is dropped. Where the list is used up, the least of them above the
-- thread chosen last is taken, else the least.
use Rattle.std.specs.Prelude.{ℕ, ◌+◌, Bool, true, ◌==◌, nat_lt, List, [], ◌∷◌, length, drop, find, position, slice_index, Option, Some, None, unwrap_or}
use Rattle.std.specs.List.{list_any}

-- how far a chooser is in its list, and the thread that it chose last
pub record Follow : Type 0 where
  pub position : ℕ
  pub last : Option ℕ

-- the thread that is taken, and the place in the list after it
pub record Followed : Type 0 where
  pub thread : ℕ
  pub next : Follow

-- at the front of the list, and no thread chosen
abbrev pub at_front : Follow
at_front = record { position = 0; last = None }

abbrev pub is_among : List ℕ → ℕ → Bool
is_among threads thread = list_any (λ other. other == thread) threads

abbrev pub is_above : Option ℕ → ℕ → Bool
is_above None thread = true
is_above (Some last) thread = nat_lt last thread

-- the next in turn among the threads `first` and `others`, which rise
abbrev pub next_above : Option ℕ → ℕ → List ℕ → ℕ
next_above last first others = unwrap_or (find (is_above last) (first ∷ others)) first

abbrev pub taken : List ℕ → Follow → ℕ → List ℕ → Option ℕ → Followed
taken listed follow first others (Some entry) =
    let thread = slice_index listed (follow.position + entry) in
    record { thread = thread; next = record { position = follow.position + entry + 1; last = Some thread } }
taken listed follow first others None =
    let thread = next_above follow.last first others in
    record { thread = thread; next = record { position = length listed; last = Some thread } }

-- what is taken of these threads, if there are some
unfoldable pub follow_turns : List ℕ → Follow → List ℕ → Option Followed
follow_turns listed follow [] = None
follow_turns listed follow (first ∷ others) =
    Some (taken listed follow first others (position (is_among (first ∷ others)) (drop follow.position listed)))
