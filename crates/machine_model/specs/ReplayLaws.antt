-- What holds of every run that follows a list: its own turns lead through it again.
use Rattle.std.specs.Prelude.{◌≡◌, ℕ, zero, suc, List}
use Rattle.machine_model.specs.Run.{Advance, Course, advanced, run_of}
use Rattle.machine_model.specs.Run.Advance.{Onward, Over}
use Rattle.machine_model.specs.System.{System}

-- the turns of a run, given back as the listed ones, give the same run
abbrev pub TurnsGiveTheRun : {S : Type 0} → System S → Type 0
TurnsGiveTheRun system =
    (listed : List ℕ) (steps : ℕ) →
    run_of system (run_of system listed steps).turns steps ≡ run_of system listed steps

-- the last turn, with which a run is over, leads nowhere
abbrev pub onward_from : {S : Type 0} → (Course S → Course S) → Course S → Advance S → Course S
onward_from go course (Onward next) = go next
onward_from go course (Over last outcome) = course

-- the course after so many turns with which the run goes on
unfoldable pub course_after : {S : Type 0} → ℕ → System S → List ℕ → Course S → Course S
course_after zero system listed course = course
course_after (suc turns) system listed course =
    onward_from (course_after turns system listed) course (advanced system listed course)
