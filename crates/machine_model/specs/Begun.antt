-- Where each alternate of a race begins: the hold, and with it the turn that the first thread takes after it. No
-- schedule has a part in either.
use Rattle.std.specs.Prelude.{ℕ, List, [], ◌∷◌, ◌++◌, length, if◌then◌else◌}
use Rattle.run_types.specs.declared.race.Race.{Race}
use Rattle.run_types.specs.declared.run.Outcome.TheVariants as outcomes
use Rattle.run_types.specs.declared.run.Reason.{Reason}
use Rattle.run_types.specs.declared.run.Run.{Run}
use Rattle.machine_model.specs.Hold.{Held}
use Rattle.machine_model.specs.Hold.Held.{Reordered, NotEnforced, RunOver}
use Rattle.machine_model.specs.Policy.{releasing}
use Rattle.machine_model.specs.Repeat.{Snapshot, earlier_turn, repeats, snapshot_of}
use Rattle.machine_model.specs.Run.{Advance, Course, advanced, concluded}
use Rattle.machine_model.specs.Run.Advance.{Onward, Over}
use Rattle.machine_model.specs.System.{System}

pub data Begun (S : Type 0) : Type 0 where
  -- the first thread took its turn: the snapshots after all turns so far, and the course after the last of them
  Ready : List (Snapshot S) → Course S → Begun S
  -- the second order can't be enforced: why, and the course that shows it
  NotBegun : Reason → Course S → Begun S
  -- the run is over by then
  Complete : Run → Begun S

abbrev pub released_course : {S : Type 0} → ℕ → Course S → Course S
released_course thread course = record course { policy = releasing thread course.policy }

-- with that turn the run may be over, and it may repeat an earlier one
abbrev pub begun_by : {S : Type 0} → System S → List (Snapshot S) → Advance S → Begun S
begun_by system past (Over course outcome) = Complete (concluded system course outcome)
begun_by system past (Onward course) =
    let now = snapshot_of course in
    if repeats system past now
    then Complete (concluded system course (outcomes.Repeats (length past) (earlier_turn (length past))))
    else Ready (past ++ now ∷ []) course

abbrev pub begun_after : {S : Type 0} → System S → List ℕ → Race → Held S → Begun S
begun_after system listed race (Reordered past course) =
    begun_by system past (advanced system listed (released_course race.t1 course))
begun_after system listed race (NotEnforced reason course) = NotBegun reason course
begun_after system listed race (RunOver run) = Complete run
