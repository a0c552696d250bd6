-- The moments of a run: each of its turns, with what there was before it.
use Rattle.std.specs.Prelude.{ℕ, zero, suc, ◌+◌, ◌-◌, ◌==◌, List, [], ◌∷◌, Option, Some, None, if◌then◌else◌}
use Rattle.machine_model.specs.declared.access.Access.{Access}
use Rattle.machine_model.specs.Access.{access_of}
use Rattle.machine_model.specs.Policy.{Choice, choose}
use Rattle.machine_model.specs.Run.{Advance, Course, advanced_with, first_course}
use Rattle.machine_model.specs.Run.Advance.{Onward, Over}
use Rattle.machine_model.specs.System.{System}

-- a turn of a thread, with the course before the thread was chosen
pub record Moment (S : Type 0) : Type 0 where
  pub before : Course S
  pub thread : ℕ

abbrev pub onward_or_none : {S : Type 0} → (Course S → List (Moment S)) → Advance S → List (Moment S)
onward_or_none go (Onward course) = go course
onward_or_none go (Over course outcome) = []

abbrev pub moments_with : {S : Type 0} → (Course S → List (Moment S)) → System S → Course S → Option Choice →
    List (Moment S)
moments_with go system course None = []
moments_with go system course (Some choice) =
    record { before = course; thread = choice.thread }
    ∷ onward_or_none go (advanced_with system course (Some choice))

-- the moments of the run from here on, of at most `most` turns
unfoldable pub moments_from : {S : Type 0} → ℕ → System S → List ℕ → Course S → List (Moment S)
moments_from zero system listed course = []
moments_from (suc most) system listed course =
    moments_with (moments_from most system listed) system course
    (choose listed course.policy (system.enabled course.state))

-- the moments of the run that follows a list of turns within a budget of steps
unfoldable pub moments_of : {S : Type 0} → System S → List ℕ → ℕ → List (Moment S)
moments_of system listed steps = moments_from (steps + 1) system listed (first_course system steps)

-- the access that the turn does, if it does one. One that traps is done; where no step is left, nothing is
abbrev pub access_at : {S : Type 0} → System S → Moment S → Option Access
access_at system moment =
    if moment.before.left == 0 then None else access_of (system.pending moment.before.state moment.thread)

-- the moments from a thread's turn of this number on, counted from 1
abbrev pub from_turn : {S : Type 0} → ℕ → ℕ → List (Moment S) → List (Moment S)
from_turn thread number [] = []
from_turn thread number (moment ∷ later) =
    if moment.thread == thread
    then (if number == 1 then moment ∷ later else from_turn thread (number - 1) later)
    else from_turn thread number later
