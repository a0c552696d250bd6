-- A run with the repeat test after each of its turns.
use Rattle.std.specs.Prelude.{ℕ, zero, suc, ◌+◌, List, [], ◌∷◌, ◌++◌, length, if◌then◌else◌}
use Rattle.run_types.specs.declared.run.Outcome.TheVariants as outcomes
use Rattle.run_types.specs.declared.run.Run.{Run}
use Rattle.machine_model.specs.Repeat.{Snapshot, earlier_turn, repeats, snapshot_of}
use Rattle.machine_model.specs.Run.{Advance, Course, advanced, first_course, concluded}
use Rattle.machine_model.specs.Run.Advance.{Onward, Over}
use Rattle.machine_model.specs.System.{System}

-- after a turn the run ends where the turn repeats an earlier one
abbrev pub tested_after : {S : Type 0} → System S → (List (Snapshot S) → Course S → Run) → List (Snapshot S) →
    Advance S → Run
tested_after system go past (Over course outcome) = concluded system course outcome
tested_after system go past (Onward course) =
    let now = snapshot_of course in
    if repeats system past now then concluded system course (outcomes.Repeats (length past) (earlier_turn (length past)))
    else go (past ++ now ∷ []) course

-- the run from here on, of at most `most` turns, with the snapshots after all turns so far, the start included
unfoldable pub tested_from : {S : Type 0} → ℕ → System S → List ℕ → List (Snapshot S) → Course S → Run
tested_from zero system listed past course = concluded system course outcomes.Spent
tested_from (suc most) system listed past course =
    tested_after system (tested_from most system listed) past (advanced system listed course)

-- each turn costs at least 1, or is cut
abbrev pub tested_on : {S : Type 0} → System S → List ℕ → List (Snapshot S) → Course S → Run
tested_on system listed past course = tested_from (course.left + 1) system listed past course

-- the run from the start that follows a list of turns within a budget of steps
unfoldable pub tested_run : {S : Type 0} → System S → List ℕ → ℕ → Run
tested_run system listed steps =
    let start = first_course system steps in tested_on system listed (snapshot_of start ∷ []) start
