-- The run of an unresolved race was cut.
use Rattle.std.proofs.Common.{◌≡◌, ℕ, ◌<◌, ◌⊎◌, inl, inr, IsTrue, List, Ok, refl, subst}
use Rattle.ir_types.specs.declared.input.Input.{Input}
use Rattle.ir_types.specs.declared.«module».Module.{Module}
use Rattle.run_types.specs.declared.case.Case.{Case}
use Rattle.run_types.specs.declared.race.Race.{Race}
use Rattle.run_types.specs.declared.run.Outcome.{Outcome}
use Rattle.run_types.specs.declared.run.Outcome.TheVariants.{Exit, Trap, Deadlock, Repeats, Spent}
use Rattle.run_types.specs.declared.run.Run.{Run}
use Rattle.machine_model.specs.Job.Alternate.{Ran}
use Rattle.machine_model.specs.Moment.{moments_of}
use Rattle.machine_model.specs.Primary.{setting_of}
use Rattle.machine_model.specs.RowLaws.{EndsCut, RunIsCut, SpentJobIsCut}
use Rattle.machine_model.specs.Rows.{HasRows}
use Rattle.machine_model.specs.System.{machine_of}
use Rattle.race_verdict.specs.declared.verdict.Verdict.{Verdict}
use Rattle.race_verdict.specs.Verdict.{is_spent}
use Rattle.race_top.specs.AnalyserPool.{ClassOf, jobs_of, job_numbers}
use Rattle.race_top.specs.Evidence.{HasEvidence, IsInputOf, IsRunOfJob, RaceHasEvidence, UnresolvedIsCut}
use Rattle.race_top.proofs.ClassEvidence.{classes-shown}

spent-is : (outcome : Outcome) → IsTrue (is_spent outcome) → outcome ≡ Spent
spent-is Spent spent = refl
spent-is (Exit status) spent = absurd (let h : ⊥ = cc in h)
spent-is (Trap trap thread site) spent = absurd (let h : ⊥ = cc in h)
spent-is Deadlock spent = absurd (let h : ⊥ = cc in h)
spent-is (Repeats turn earlier) spent = absurd (let h : ⊥ = cc in h)

-- the primary or an alternate
job-is_cut : (code : Module) (case : Case) (race : Race) (path schedule : ℕ) (input : Input) (run : Run) →
    SpentJobIsCut → HasRows code → IsRunOfJob (jobs_of code case race) (IsInputOf case) job_numbers path schedule input run →
    RunIsCut code case input run
job-is_cut code case race path schedule input run cut rows job = go job.either
  where
    go : ((schedule ≡ 0) × ((jobs_of code case race).primary input ≡ run))
        ⊎ ((0 < schedule) × ((jobs_of code case race).alternate input schedule ≡ Ran run)) →
        RunIsCut code case input run
    go (inl primary) = subst (RunIsCut code case input) primary.1 (cut code case race input rows).0
    go (inr alternate) = (cut code case race input rows).1 schedule run alternate.1

pub unresolved-is_cut : SpentJobIsCut → UnresolvedIsCut
unresolved-is_cut cut code case pair race path schedule input turns rows is class =
    let shown = subst (RaceHasEvidence code case race) class (classes-shown code case pair race is) in
    subst (λ (list : List ℕ). EndsCut (setting_of code case input) (moments_of (machine_of (setting_of code case input)) list case.steps))
    shown.turns_are
    (job-is_cut code case race path schedule input shown.run cut rows shown.job (spent-is shown.run.outcome shown.ends))
