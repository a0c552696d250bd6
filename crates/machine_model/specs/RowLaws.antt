-- What holds of the runs of a module that has all of its rows: each step is one that there is to take, and a run is
-- spent only where a step cost more than was left.
use Rattle.std.specs.Prelude.{◌≡◌, ℕ, List, [], ◌∷◌, ◌++◌, All}
use Rattle.ir_types.specs.declared.input.Input.{Input}
use Rattle.ir_types.specs.declared.«module».Module.{Module}
use Rattle.run_types.specs.declared.case.Case.{Case}
use Rattle.run_types.specs.declared.race.Race.{Race}
use Rattle.run_types.specs.declared.run.Outcome.TheVariants.{Spent}
use Rattle.run_types.specs.declared.run.Run.{Run}
use Rattle.machine_model.specs.declared.state.State.{State}
use Rattle.machine_model.specs.Charge.{Charge, HasCost, IsCut, charges}
use Rattle.machine_model.specs.Job.{AlternateJob, PrimaryJob}
use Rattle.machine_model.specs.Job.Alternate.{Ran}
use Rattle.machine_model.specs.Moment.{Moment, moments_of}
use Rattle.machine_model.specs.Primary.{setting_of}
use Rattle.machine_model.specs.Rows.{HasRows}
use Rattle.machine_model.specs.Run.{run_of}
use Rattle.machine_model.specs.Setting.{Setting}
use Rattle.machine_model.specs.System.{machine_of}

-- what the steps of a moment's turn cost
abbrev pub charges_at : Setting → Moment State → List Charge
charges_at setting moment = charges setting moment.before.state moment.thread moment.before.left

abbrev pub StepsHaveCosts : Type 0
StepsHaveCosts =
    (setting : Setting) (listed : List ℕ) (steps : ℕ) → HasRows setting.code →
    All (λ (moment : Moment State). All HasCost (charges_at setting moment)) (moments_of (machine_of setting) listed steps)

-- the last step of the last turn cost more than was left
pub record EndsCut (setting : Setting) (moments : List (Moment State)) : Type 0 where
  pub earlier : List (Moment State)
  pub last : Moment State
  pub is_last : moments ≡ earlier ++ last ∷ []
  pub paid : List Charge
  pub step : Charge
  pub is_its_last : charges_at setting last ≡ paid ++ step ∷ []
  pub is_cut : IsCut step

abbrev pub SpentRunIsCut : Type 0
SpentRunIsCut =
    (setting : Setting) (listed : List ℕ) (steps : ℕ) → HasRows setting.code →
    (run_of (machine_of setting) listed steps).outcome ≡ Spent → EndsCut setting (moments_of (machine_of setting) listed steps)

-- of the runs of jobs: their turns, recorded, give a run that was cut so
abbrev pub RunIsCut : Module → Case → Input → Run → Type 0
RunIsCut code case input run =
    run.outcome ≡ Spent → EndsCut (setting_of code case input) (moments_of (machine_of (setting_of code case input)) run.turns case.steps)

abbrev pub SpentJobIsCut : Type 0
SpentJobIsCut =
    (code : Module) (case : Case) (race : Race) (input : Input) → HasRows code →
    RunIsCut code case input (PrimaryJob code case input)
    × ((schedule : ℕ) (run : Run) → AlternateJob code case race input schedule ≡ Ran run → RunIsCut code case input run)
