-- What is asked of the results of a race's jobs.
use Rattle.std.specs.Prelude.{◌≡◌, ◌≢◌, ℕ, zero, suc, ◌<◌, ◌⊎◌, List, [], ◌++◌, map, Contains, IsSome}
use Rattle.std.specs.List.{range_with_len}
use Rattle.run_types.specs.declared.run.Reason.{Reason}
use Rattle.run_types.specs.declared.run.Run.{Run}
use Rattle.race_verdict.specs.declared.result.JobKind.{JobKind}
use Rattle.race_verdict.specs.declared.result.JobKind.TheVariants.{Ran, Not, Absent, Skipped}
use Rattle.race_verdict.specs.declared.result.JobResult.{JobResult}
use Rattle.race_verdict.specs.declared.result.Judged.TheVariants.{NotJudged}
use Rattle.race_verdict.specs.Verdict.{is_exit, run_that, violation}

-- the numbers of a job: its path and its schedule
abbrev pub job_of : JobResult → ℕ × ℕ
job_of result = (result.path, result.schedule)

-- the primary and the alternates of a path
abbrev pub jobs_of_path : ℕ → ℕ → List (ℕ × ℕ)
jobs_of_path schedules path = map (λ schedule. (path, schedule)) (range_with_len 0 (suc schedules))

-- the jobs of so many paths from a path on, in order
abbrev pub jobs_from : ℕ → ℕ → ℕ → List (ℕ × ℕ)
jobs_from schedules path zero = []
jobs_from schedules path (suc paths) = jobs_of_path schedules path ++ jobs_from schedules (suc path) paths

-- a job comes before another
abbrev pub IsEarlier : ℕ × ℕ → ℕ × ℕ → Type 0
IsEarlier one other = (one.0 < other.0) ⊎ ((one.0 ≡ other.0) × (one.1 < other.1))

abbrev pub IsBefore : JobResult → JobResult → Type 0
IsBefore one other = IsEarlier (job_of one) (job_of other)

abbrev pub IsRan : JobKind → Type 0
IsRan kind = (run : Run) × (kind ≡ Ran run)

-- the second job is an alternate of the path whose primary the first one is
abbrev pub IsAlternateOf : JobResult → JobResult → Type 0
IsAlternateOf primary alternate =
    (primary.schedule ≡ 0) × (0 < alternate.schedule) × (primary.path ≡ alternate.path)

-- both jobs are alternates of one path
abbrev pub AreAlternates : JobResult → JobResult → Type 0
AreAlternates one other = (0 < one.schedule) × (0 < other.schedule) × (one.path ≡ other.path)

-- a job that violates comes before the job
abbrev pub IsAfterViolation : List JobResult → JobResult → Type 0
IsAfterViolation results result =
    (earlier : JobResult) × Contains results earlier × IsSome (violation earlier) × IsBefore earlier result

-- the results of so many paths, each with so many schedules
pub record AreResults (paths schedules : ℕ) (results : List JobResult) : Type 0 where
  -- there is the recorded path, with an alternate
  pub path : 0 < paths
  pub schedule : 0 < schedules
  -- each path has its primary and its alternates, in order
  pub jobs : map job_of results ≡ jobs_from schedules 0 paths
  -- the recorded path's primary reaches the race
  pub recorded : (result : JobResult) → Contains results result → job_of result ≡ (0, 1) → result.kind ≢ Absent
  -- an alternate runs where the primary did, unless that one was needless
  pub ran : (primary alternate : JobResult) → Contains results primary → Contains results alternate →
      IsAlternateOf primary alternate → IsRan alternate.kind → IsRan primary.kind ⊎ (primary.kind ≡ Skipped)
  -- the hold gives all alternates of a path one answer: they run, or it can't be enforced for one reason
  pub held : (one other : JobResult) (reason : Reason) (turns : List ℕ) → Contains results one →
      Contains results other → AreAlternates one other → one.kind ≡ Not reason turns → ¬ IsRan other.kind
  pub reason : (one other : JobResult) (reason second : Reason) (turns others : List ℕ) → Contains results one →
      Contains results other → AreAlternates one other → one.kind ≡ Not reason turns →
      other.kind ≡ Not second others → (reason ≡ second) × (turns ≡ others)
  -- an alternate that exits is judged where its primary exits too
  pub judged : (primary alternate : JobResult) → Contains results primary → Contains results alternate →
      IsAlternateOf primary alternate → IsSome (run_that is_exit primary.kind) →
      IsSome (run_that is_exit alternate.kind) → alternate.judged ≢ NotJudged
  -- a job is skipped only after one that violates
  pub skipped : (result : JobResult) → Contains results result → result.kind ≡ Skipped →
      IsAfterViolation results result
