-- The results of a race's jobs, and the class that they give it.
use Rattle.std.specs.Prelude.{ℕ, zero, suc, Bool, ◌&&◌, List, if◌then◌else◌, map}
use Rattle.std.specs.Cmp.Lexicographic.{pointwise}
use Rattle.ir_types.specs.declared.input.Input.{Input}
use Rattle.ir_types.specs.declared.«module».Module.{Module}
use Rattle.run_types.specs.contracts.out_item.OutItemPartialEq.TheImpl as item
use Rattle.run_types.specs.declared.case.Case.{Case}
use Rattle.run_types.specs.declared.race.Race.{Race}
use Rattle.run_types.specs.declared.run.Run.{Run}
use Rattle.run_types.specs.declared.out_item.OutItem.{OutItem}
use Rattle.machine_model.specs.Job.{Alternate, AlternateJob, PrimaryJob}
use Rattle.machine_model.specs.Job.Alternate.{Ran, Not, Absent}
use Rattle.race_verdict.specs.declared.result.JobKind.{JobKind}
use Rattle.race_verdict.specs.declared.result.JobKind.TheVariants as kinds
use Rattle.race_verdict.specs.declared.result.JobResult.{JobResult}
use Rattle.race_verdict.specs.declared.result.Judged.{Judged}
use Rattle.race_verdict.specs.declared.result.Judged.TheVariants.{Admitted, Never, NotJudged}
use Rattle.race_verdict.specs.declared.verdict.Verdict.{Verdict}
use Rattle.race_verdict.specs.Results.{jobs_from}
use Rattle.race_verdict.specs.Verdict.{VerdictOf, is_exit}
use Rattle.report_text.specs.declared.report.RaceReport.{RaceReport}

abbrev pub same_output : List OutItem → List OutItem → Bool
same_output one other = pointwise (item.ghosts).eq one other

-- a path without inputs admits an output exactly where its primary prints it
abbrev pub judged_run : Input → Run → Run → Judged
judged_run input primary run =
    if is_exit primary.outcome && is_exit run.outcome
    then (if same_output primary.output run.output then Admitted input else Never)
    else NotJudged

abbrev pub judged_of : Input → Run → Alternate → Judged
judged_of input primary (Ran run) = judged_run input primary run
judged_of input primary (Not reason turns) = NotJudged
judged_of input primary Absent = NotJudged

abbrev pub kind_of : Alternate → JobKind
kind_of (Ran run) = kinds.Ran run
kind_of (Not reason turns) = kinds.Not reason turns
kind_of Absent = kinds.Absent

-- what gives the runs by which a race is judged: the primary of an input, and its alternate by the schedule's number
pub record Jobs : Type 0 where
  pub primary : Input → Run
  pub alternate : Input → ℕ → Alternate

-- of a race of a case
abbrev pub jobs_of : Module → Case → Race → Jobs
jobs_of code case race = record {
  primary = PrimaryJob code case;
  alternate = AlternateJob code case race;
}

-- schedule 0 of a path is its primary
abbrev pub job_kind : Jobs → Input → ℕ → JobKind
job_kind jobs input zero = kinds.Ran (jobs.primary input)
job_kind jobs input (suc before) = kind_of (jobs.alternate input (suc before))

abbrev pub job_judged : Jobs → Input → ℕ → Judged
job_judged jobs input zero = NotJudged
job_judged jobs input (suc before) = judged_of input (jobs.primary input) (jobs.alternate input (suc before))

-- the result of the job of a path and a schedule, from the input of each path
abbrev pub result_of : Jobs → (ℕ → Input) → ℕ × ℕ → JobResult
result_of jobs input_of job =
    let input = input_of job.0 in
    record {
      path = job.0;
      schedule = job.1;
      input = input;
      kind = job_kind jobs input job.1;
      judged = job_judged jobs input job.1;
    }

-- the jobs: of one path, which is the recorded one, with one schedule
abbrev pub job_numbers : List (ℕ × ℕ)
job_numbers = jobs_from 1 0 1

-- the results of the jobs, in order; the recorded path's input is the case's
unfoldable pub results_of : Module → Case → Race → List JobResult
results_of code case race = map (result_of (jobs_of code case race) (λ path. case.input)) job_numbers

-- the class of the race, with its evidence
abbrev pub ClassOf : Module → Case → Race → Verdict
ClassOf code case race = VerdictOf (results_of code case race)

-- the classes of some races, with the turns that race
abbrev pub report_of : Module → Case → Race → RaceReport
report_of code case race =
    record { first = race.first; second = race.second; verdict = ClassOf code case race }

abbrev pub reports_of : Module → Case → List Race → List RaceReport
reports_of code case races = map (report_of code case) races
