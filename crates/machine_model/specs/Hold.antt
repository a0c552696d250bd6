-- The hold: from the hold point on a race's first thread is held, with its access pending, and the others run until
-- the second thread has done its access, which is then the first of the two.
use Rattle.std.specs.Prelude.{ℕ, zero, suc, Bool, List, [], ◌∷◌, ◌++◌, Option, Some, None, if◌then◌else◌}
use Rattle.machine_model.specs.declared.access.Access.{Access}
use Rattle.run_types.specs.declared.race.Race.{Race}
use Rattle.run_types.specs.declared.run.Outcome.{Outcome}
use Rattle.run_types.specs.declared.run.Outcome.TheVariants as outcomes
use Rattle.run_types.specs.declared.run.Reason.{Reason}
use Rattle.run_types.specs.declared.run.Reason.TheVariants.{Stuck, Repeats, Ended, Diverged}
use Rattle.run_types.specs.declared.run.Run.{Run}
use Rattle.machine_model.specs.Policy.{Choice, choose}
use Rattle.machine_model.specs.Reach.{does_second}
use Rattle.machine_model.specs.Repeat.{Snapshot, repeats, snapshot_of}
use Rattle.machine_model.specs.Run.{Advance, Course, advanced_with, concluded}
use Rattle.machine_model.specs.Run.Advance.{Onward, Over}
use Rattle.machine_model.specs.System.{System}

-- how a hold ends
pub data Held (S : Type 0) : Type 0 where
  -- the second access was done: the snapshots after all turns so far, and the course after the last of them
  Reordered : List (Snapshot S) → Course S → Held S
  -- the second order can't be enforced: why, and the course that shows it
  NotEnforced : Reason → Course S → Held S
  -- the run is over before that
  RunOver : Run → Held S

-- a turn that ends the process ends the hold, and one that traps or is cut ends the run
abbrev pub held_over : {S : Type 0} → System S → Course S → Outcome → Held S
held_over system course (outcomes.Exit status) = NotEnforced Ended course
held_over system course outcome = RunOver (concluded system course outcome)

-- after a turn, of which `done` tells whether it did the second access
abbrev pub held_after : {S : Type 0} → System S → (List (Snapshot S) → Course S → Held S) → List (Snapshot S) →
    Bool → Advance S → Held S
held_after system go past done (Over course outcome) = held_over system course outcome
held_after system go past done (Onward course) =
    let now = snapshot_of course in
    if done then Reordered (past ++ now ∷ []) course
    else if repeats system past now then NotEnforced Repeats course
    else go (past ++ now ∷ []) course

abbrev pub held_with : {S : Type 0} → (List (Snapshot S) → Course S → Held S) → System S → Race → Access →
    List (Snapshot S) → Course S → Option Choice → Held S
held_with go system race first past course None = NotEnforced Stuck course
held_with go system race first past course (Some choice) =
    held_after system go past (does_second system race first (record { before = course; thread = choice.thread }))
    (advanced_with system course (Some choice))

-- before each turn: the second thread may have ended, or no thread but the held one may be enabled
unfoldable pub held_from : {S : Type 0} → ℕ → System S → List ℕ → Race → Access → List (Snapshot S) → Course S → Held S
held_from zero system listed race first past course = RunOver (concluded system course outcomes.Spent)
held_from (suc most) system listed race first past course =
    if system.ended course.state race.t2 then NotEnforced Diverged course
    else held_with (held_from most system listed race first) system race first past course
    (choose listed course.policy (system.enabled course.state))
