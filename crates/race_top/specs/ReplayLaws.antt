-- What holds of every refusal of a recorded run, whatever the module, the input and the watched sites.
use Rattle.std.specs.Prelude.{◌≡◌, ◌≢◌, ℕ, ◌+◌, List, Contains, length, slice_get, take, Some, None}
use Rattle.run_types.specs.declared.run.Outcome.TheVariants as outcomes
use Rattle.run_types.specs.declared.run.Run.{Run}
use Rattle.machine_model.specs.ReplayLaws.{course_after}
use Rattle.machine_model.specs.Run.{first_course, run_of}
use Rattle.machine_model.specs.System.{System}
use Rattle.race_top.specs.TraceReplay.{replay_error}
use Rattle.race_top.specs.declared.trace_replay.ReplayError.TheVariants.{TurnNotEnabled}

-- a run that was not spent takes its own turns
abbrev pub RunTakesItsTurns : Type 0
RunTakesItsTurns = (run : Run) → run.outcome ≢ outcomes.Spent → replay_error run.turns run ≡ None

-- a list that is not refused stands at the front of the run's turns
abbrev pub ListedAreTaken : {S : Type 0} → System S → Type 0
ListedAreTaken system =
    (listed : List ℕ) (steps : ℕ) →
    replay_error listed (run_of system listed steps) ≡ None →
    take (length listed) (run_of system listed steps).turns ≡ listed

-- the thread of a listed turn that is refused as not enabled is none of those that are enabled at that moment
abbrev pub RefusedIsNotEnabled : {S : Type 0} → System S → Type 0
RefusedIsNotEnabled system =
    (listed : List ℕ) (steps before thread : ℕ) →
    replay_error listed (run_of system listed steps) ≡ Some (TurnNotEnabled (before + 1)) →
    slice_get listed before ≡ Some thread →
    ¬ Contains (system.enabled (course_after before system listed (first_course system steps)).state) thread
