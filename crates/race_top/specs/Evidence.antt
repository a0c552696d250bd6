-- What the evidence of a class is: runs of the race's jobs that show it. It is said of any list of jobs, which are
-- numbered by path and schedule, of what gives their runs, and of which inputs a path has.
use Rattle.std.specs.Prelude.{◌≡◌, ◌≢◌, ℕ, ◌<◌, ◌⊎◌, IsTrue, List, [], All, Contains, Ok}
use Rattle.ir_types.specs.declared.input.Input.{Input}
use Rattle.ir_types.specs.declared.«module».Module.{Module}
use Rattle.run_types.specs.declared.case.Case.{Case}
use Rattle.run_types.specs.declared.race.Race.{Race}
use Rattle.run_types.specs.declared.run.Reason.{Reason}
use Rattle.run_types.specs.declared.run.Run.{Run}
use Rattle.run_types.specs.declared.out_item.OutItem.{OutItem}
use Rattle.machine_model.specs.Job.Alternate.{Ran, Not}
use Rattle.machine_model.specs.Moment.{moments_of}
use Rattle.machine_model.specs.Primary.{setting_of}
use Rattle.machine_model.specs.RowLaws.{EndsCut}
use Rattle.machine_model.specs.Rows.{HasRows}
use Rattle.machine_model.specs.System.{machine_of}
use Rattle.race_verdict.specs.declared.verdict.HarmlessRun.{HarmlessRun}
use Rattle.race_verdict.specs.declared.verdict.Verdict.{Verdict}
use Rattle.race_verdict.specs.declared.verdict.Verdict.TheVariants.{SpecViolated, SingleOrdering, OutputDiffers, Unresolved, Harmless}
use Rattle.race_verdict.specs.Verdict.{distinct, is_exit, is_spent, violates}
use Rattle.race_top.specs.AnalyserPool.{ClassOf, Jobs, job_numbers, jobs_of}
use Rattle.race_top.specs.CheckRace.{RaceOf}

-- the run of a listed job on an input of its path: of the primary, or of the alternate by the schedule
pub record IsRunOfJob (jobs : Jobs) (IsInput : ℕ → Input → Type 0) (listed : List (ℕ × ℕ)) (path schedule : ℕ) (input : Input) (run : Run) : Type 0 where
  pub is_listed : Contains listed (path, schedule)
  pub on_path : IsInput path input
  pub either :
      ((schedule ≡ 0) × (jobs.primary input ≡ run))
      ⊎ ((0 < schedule) × (jobs.alternate input schedule ≡ Ran run))

-- a run of a job with these turns, which ends as told
pub record ShowsEnd (jobs : Jobs) (IsInput : ℕ → Input → Type 0) (listed : List (ℕ × ℕ)) (path schedule : ℕ) (input : Input) (turns : List ℕ) (Ends : Run → Type 0) : Type 0 where
  pub run : Run
  pub job : IsRunOfJob jobs IsInput listed path schedule input run
  pub turns_are : run.turns ≡ turns
  pub ends : Ends run

-- on the recorded path, which is path 0, the hold gives a reason
pub record ShowsReason (jobs : Jobs) (IsInput : ℕ → Input → Type 0) (listed : List (ℕ × ℕ)) (reason : Reason) (turns : List ℕ) : Type 0 where
  pub input : Input
  pub is_listed : Contains listed (0, 1)
  pub on_path : IsInput 0 input
  pub answers : jobs.alternate input 1 ≡ Not reason turns

-- the recorded order and the other one both exit: their runs
pub record BothExit (jobs : Jobs) (schedule : ℕ) (input : Input) (alternate : Run) : Type 0 where
  pub second : jobs.alternate input schedule ≡ Ran alternate
  pub first_exits : IsTrue (is_exit (jobs.primary input).outcome)
  pub second_exits : IsTrue (is_exit alternate.outcome)

-- they print differently
pub record ShowsDifference (jobs : Jobs) (IsInput : ℕ → Input → Type 0) (listed : List (ℕ × ℕ)) (path schedule : ℕ) (input : Input) (primary : List ℕ) (prints : List OutItem) (turns : List ℕ) (output : List OutItem) : Type 0 where
  pub alternate : Run
  pub both : BothExit jobs schedule input alternate
  pub job : IsRunOfJob jobs IsInput listed path schedule input alternate
  pub is_alternate : 0 < schedule
  pub primary_turns : (jobs.primary input).turns ≡ primary
  pub primary_prints : (jobs.primary input).output ≡ prints
  pub alternate_turns : alternate.turns ≡ turns
  pub alternate_prints : alternate.output ≡ output
  pub differ : output ≢ prints

-- they print the same, on the admitting input
pub record ShowsAdmitted (jobs : Jobs) (IsInput : ℕ → Input → Type 0) (listed : List (ℕ × ℕ)) (run : HarmlessRun) : Type 0 where
  pub alternate : Run
  pub both : BothExit jobs run.schedule run.input alternate
  pub job : IsRunOfJob jobs IsInput listed run.path run.schedule run.input alternate
  pub is_alternate : 0 < run.schedule
  pub turns_are : alternate.turns ≡ run.turns
  pub prints : alternate.output ≡ run.output
  pub admitted : IsInput run.path run.admitted
  pub primary_prints : (jobs.primary run.admitted).output ≡ run.output

-- the alternate, where it exits, has the input and the turns of one of the runs
abbrev pub IsAmong : Jobs → ℕ → Input → List HarmlessRun → Type 0
IsAmong jobs schedule input runs =
    (alternate : Run) → jobs.alternate input schedule ≡ Ran alternate → IsTrue (is_exit alternate.outcome) →
    (run : HarmlessRun) × Contains runs run × (run.input ≡ input) × (run.turns ≡ alternate.turns)

-- there are such runs, no two have one input and the same turns, and no listed alternate that exits is left out
pub record ShowsHarmless (jobs : Jobs) (IsInput : ℕ → Input → Type 0) (listed : List (ℕ × ℕ)) (runs : List HarmlessRun) : Type 0 where
  pub some : runs ≢ []
  pub shown : All (ShowsAdmitted jobs IsInput listed) runs
  pub apart : distinct runs ≡ runs
  pub whole : (path schedule : ℕ) → Contains listed (path, schedule) → 0 < schedule →
      (input : Input) × IsInput path input × IsAmong jobs schedule input runs

-- the runs that show a class
abbrev pub HasEvidence : Jobs → (ℕ → Input → Type 0) → List (ℕ × ℕ) → Verdict → Type 0
HasEvidence jobs IsInput listed (SpecViolated path schedule input turns fault) =
    ShowsEnd jobs IsInput listed path schedule input turns (λ run. (run.outcome ≡ fault) × IsTrue (violates fault))
HasEvidence jobs IsInput listed (SingleOrdering reason turns) = ShowsReason jobs IsInput listed reason turns
HasEvidence jobs IsInput listed (OutputDiffers path schedule input primary prints turns output) =
    ShowsDifference jobs IsInput listed path schedule input primary prints turns output
HasEvidence jobs IsInput listed (Unresolved path schedule input turns) =
    ShowsEnd jobs IsInput listed path schedule input turns (λ run. IsTrue (is_spent run.outcome))
HasEvidence jobs IsInput listed (Harmless runs) = ShowsHarmless jobs IsInput listed runs

-- modules read no inputs yet, so a path has the case's alone
abbrev pub IsInputOf : Case → ℕ → Input → Type 0
IsInputOf case path input = input ≡ case.input

-- of a race of a case
abbrev pub RaceHasEvidence : Module → Case → Race → Verdict → Type 0
RaceHasEvidence code case race =
    HasEvidence (jobs_of code case race) (IsInputOf case) job_numbers

-- the class of each race of a case is shown by its evidence
abbrev pub ClassesHaveEvidence : Type 0
ClassesHaveEvidence =
    (code : Module) (case : Case) (pair : ℕ × ℕ) (race : Race) →
    RaceOf code case pair ≡ Ok race → RaceHasEvidence code case race (ClassOf code case race)

-- in a module that has all of its rows the run that an unresolved race names has a last step that cost more than was
-- left
abbrev pub UnresolvedIsCut : Type 0
UnresolvedIsCut =
    (code : Module) (case : Case) (pair : ℕ × ℕ) (race : Race) (path schedule : ℕ) (input : Input) (turns : List ℕ) →
    HasRows code → RaceOf code case pair ≡ Ok race → ClassOf code case race ≡ Unresolved path schedule input turns →
    EndsCut (setting_of code case input) (moments_of (machine_of (setting_of code case input)) turns case.steps)
