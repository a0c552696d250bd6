-- What holds of every run of a job: its turns can be recorded and replayed.
use Rattle.std.specs.Prelude.{◌≡◌, ℕ}
use Rattle.ir_types.specs.declared.input.Input.{Input}
use Rattle.ir_types.specs.declared.«module».Module.{Module}
use Rattle.run_types.specs.declared.case.Case.{Case}
use Rattle.run_types.specs.declared.race.Race.{Race}
use Rattle.run_types.specs.declared.run.Run.{Run}
use Rattle.machine_model.specs.Job.{AlternateJob, PrimaryJob}
use Rattle.machine_model.specs.Job.Alternate.{Ran}
use Rattle.machine_laws.specs.JobLaws.{IsRepeat}
use Rattle.machine_model.specs.Primary.{Primary}

-- the case in which the run's turns are listed has that run as its primary. A run that repeats a turn is left out:
-- the test ends it there, and the primary, which has no such test, goes on
abbrev pub Replays : Module → Case → Input → Run → Type 0
Replays code case input run = ¬ IsRepeat run.outcome → Primary code (record case { turns = run.turns }) input ≡ run

abbrev pub PrimaryJobReplays : Type 0
PrimaryJobReplays = (code : Module) (case : Case) (input : Input) → Replays code case input (PrimaryJob code case input)

-- also where a thread was held on the way
abbrev pub AlternateReplays : Type 0
AlternateReplays =
    (code : Module) (case : Case) (race : Race) (input : Input) (schedule : ℕ) (run : Run) →
    AlternateJob code case race input schedule ≡ Ran run → Replays code case input run
