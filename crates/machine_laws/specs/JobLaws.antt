-- What holds of the moments of a run, and of runs with the repeat test.
use Rattle.std.specs.Prelude.{◌≡◌, ℕ, List, map}
use Rattle.run_types.specs.declared.run.Outcome.{Outcome}
use Rattle.run_types.specs.declared.run.Outcome.TheVariants as outcomes
use Rattle.machine_model.specs.Moment.{moments_of}
use Rattle.machine_model.specs.Run.{run_of}
use Rattle.machine_model.specs.System.{System}
use Rattle.machine_model.specs.TestedRun.{tested_run}

-- a run has a moment for each of its turns
abbrev pub MomentsAreTurns : {S : Type 0} → System S → Type 0
MomentsAreTurns system =
    (listed : List ℕ) (steps : ℕ) →
    map (λ moment. moment.thread) (moments_of system listed steps) ≡ (run_of system listed steps).turns

abbrev pub IsRepeat : Outcome → Type 0
IsRepeat (outcomes.Repeats turn earlier) = Unit {0}
IsRepeat outcome = ⊥

-- a run that repeats no turn is the run without the test
abbrev pub UnrepeatedIsRun : {S : Type 0} → System S → Type 0
UnrepeatedIsRun system =
    (listed : List ℕ) (steps : ℕ) →
    ¬ IsRepeat (tested_run system listed steps).outcome →
    tested_run system listed steps ≡ run_of system listed steps
