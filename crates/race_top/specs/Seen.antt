-- What the code sees of two turns of the recorded run, in terms of the run's moments.
use Rattle.std.specs.Prelude.{◌≡◌, ℕ, ◌-◌, ◌<◌, List, [], ◌∷◌, map, slice_get, take, Option, Some, None}
use Rattle.ir_types.specs.declared.«module».Module.{Module}
use Rattle.run_types.specs.declared.case.Case.{Case}
use Rattle.machine_model.specs.declared.state.State.{State}
use Rattle.machine_model.specs.Moment.{Moment, access_at, moments_from, onward_or_none}
use Rattle.machine_model.specs.Policy.{Policy}
use Rattle.machine_model.specs.Primary.{setting_of}
use Rattle.machine_model.specs.Run.{Course, advanced_with}
use Rattle.machine_model.specs.System.{System, machine_of}
use Rattle.concrete_machine.specs.declared.course.Course.{Course as Kept}
use Rattle.concrete_machine.specs.Course.{IsOf, choice_of, course_of}
use Rattle.race_top.specs.declared.trace_replay.seen.Due.{Due}
use Rattle.race_top.specs.declared.trace_replay.seen.Pair.{Pair}
use Rattle.race_top.specs.declared.trace_replay.seen.Seen.{Seen}
use Rattle.race_top.specs.CheckRace.{turns_of}

-- the moments of the recorded run from a course on, at most so many
abbrev pub recorded_from : Module → Case → ℕ → Course State → List (Moment State)
recorded_from code case most course = moments_from most (machine_of (setting_of code case case.input)) case.turns course

abbrev pub threads_of : {S : Type 0} → List (Moment S) → List ℕ
threads_of moments = map (λ moment. moment.thread) moments

-- the moments that are left, at most so many, are those from a course on; where there is none, no moment is left
abbrev pub IsLeft : Module → Case → ℕ → Option Kept → List (Moment State) → Type 0
IsLeft code case most None left = left ≡ []
IsLeft code case most (Some kept) left = left ≡ recorded_from code case most (course_of kept)

-- the moment of the turn that is due, where this is the chooser that chose it
abbrev pub moment_due : Policy → Due → Moment State
moment_due policy due =
    record { before = record (course_of due.course) { policy = policy }; thread = due.thread }

-- the moments after it, at most so many
abbrev pub after_due : Module → Case → ℕ → Due → List (Moment State)
after_due code case most due =
    onward_or_none (recorded_from code case most)
    (advanced_with (machine_of (setting_of code case case.input)) (course_of due.course)
    (Some (choice_of due.thread (course_of due.course))))

-- of the moments that are left the first is that of the turn that is due, and at most so many follow it; where
-- there is none, no moment is left
abbrev pub IsDue : Module → Case → ℕ → Option Due → List (Moment State) → Type 0
IsDue code case most None left = left ≡ []
IsDue code case most (Some due) left =
    (policy : Policy) × (left ≡ moment_due policy due ∷ after_due code case most due)

-- one of the case's threads is to take it
pub record MayTake (code : Module) (case : Case) (due : Due) : Type 0 where
  pub of : IsOf code case due.course
  pub few : due.thread < 16

-- what is seen of a turn is so
pub record IsSeen {S : Type 0} (system : System S) (moment : Moment S) (seen : Seen) : Type 0 where
  pub thread : moment.thread ≡ seen.thread
  pub access : access_at system moment ≡ seen.access

-- what is seen of the two turns of these numbers, counted from 1, is so
pub record IsPair {S : Type 0} (system : System S) (moments : List (Moment S)) (first second : ℕ) (pair : Pair) : Type 0 where
  pub one : Moment S
  pub other : Moment S
  pub is_one : slice_get moments (first - 1) ≡ Some one
  pub is_other : slice_get moments (second - 1) ≡ Some other
  pub sees_one : IsSeen system one pair.one
  pub sees_other : IsSeen system other pair.other
  pub count : turns_of one.thread (take first moments) ≡ pair.count

-- where there is none the run has no second turn
abbrev pub SeesPair : {S : Type 0} → System S → List (Moment S) → ℕ → ℕ → Option Pair → Type 0
SeesPair system moments first second None = slice_get moments (second - 1) ≡ None
SeesPair system moments first second (Some pair) = IsPair system moments first second pair
