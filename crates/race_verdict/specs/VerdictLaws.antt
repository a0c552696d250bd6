-- What holds of the verdict of every list of results.
use Rattle.std.specs.Prelude.{◌≡◌, ◌≢◌, ◌↔◌, ℕ, ◌<◌, List, [], ◌∷◌, ◌++◌, All, Contains, Option, Some, None, IsSome, IsTrue}
use Rattle.run_types.specs.declared.run.Reason.{Reason}
use Rattle.run_types.specs.declared.run.Run.{Run}
use Rattle.race_verdict.specs.declared.result.JobKind.TheVariants.{Ran, Not}
use Rattle.race_verdict.specs.declared.result.JobResult.{JobResult}
use Rattle.race_verdict.specs.declared.verdict.HarmlessRun.{HarmlessRun}
use Rattle.race_verdict.specs.declared.verdict.Verdict.{Verdict}
use Rattle.race_verdict.specs.declared.verdict.Verdict.TheVariants.{SpecViolated, SingleOrdering, OutputDiffers, Unresolved, Harmless}
use Rattle.race_verdict.specs.Results.{AreResults, IsBefore, IsRan}
use Rattle.race_verdict.specs.Verdict.{VerdictOf, counted, difference, is_exit, harmless, reason_of, spending, violation}

-- the value is the answer of a result before which no result gives one
pub record IsFirst {A : Type 0} (answer : JobResult → Option A) (results : List JobResult) (value : A) : Type 0 where
  pub front : List JobResult
  pub result : JobResult
  pub rest : List JobResult
  pub parts : results ≡ front ++ result ∷ rest
  pub before : All (λ earlier. answer earlier ≡ None) front
  pub says : answer result ≡ Some value

-- no result gives an answer
abbrev pub NoneGives : {A : Type 0} → (JobResult → Option A) → List JobResult → Type 0
NoneGives answer results = All (λ result. answer result ≡ None) results

abbrev pub IsSpecViolated : Verdict → Type 0
IsSpecViolated (SpecViolated path schedule input turns fault) = Unit {0}
IsSpecViolated (SingleOrdering reason turns) = ⊥
IsSpecViolated (OutputDiffers path schedule input primary prints turns output) = ⊥
IsSpecViolated (Unresolved path schedule input turns) = ⊥
IsSpecViolated (Harmless runs) = ⊥

abbrev pub IsOutputDiffers : Verdict → Type 0
IsOutputDiffers (SpecViolated path schedule input turns fault) = ⊥
IsOutputDiffers (SingleOrdering reason turns) = ⊥
IsOutputDiffers (OutputDiffers path schedule input primary prints turns output) = Unit {0}
IsOutputDiffers (Unresolved path schedule input turns) = ⊥
IsOutputDiffers (Harmless runs) = ⊥

abbrev pub IsUnresolved : Verdict → Type 0
IsUnresolved (SpecViolated path schedule input turns fault) = ⊥
IsUnresolved (SingleOrdering reason turns) = ⊥
IsUnresolved (OutputDiffers path schedule input primary prints turns output) = ⊥
IsUnresolved (Unresolved path schedule input turns) = Unit {0}
IsUnresolved (Harmless runs) = ⊥

-- a race violates the specification exactly by the first counted job that does, wherever there is one
abbrev pub ViolatedExactly : Type 0
ViolatedExactly =
    (results : List JobResult) (verdict : Verdict) → IsSpecViolated verdict →
    (VerdictOf results ≡ verdict) ↔ IsFirst violation (counted results) verdict

abbrev pub ViolationIsFound : Type 0
ViolationIsFound =
    (results : List JobResult) (result : JobResult) → Contains (counted results) result →
    IsSome (violation result) → IsSpecViolated (VerdictOf results)

-- it has a single ordering exactly where no counted job violates and the recorded path's hold gave the reason
abbrev pub SingleExactly : Type 0
SingleExactly =
    (results : List JobResult) (reason : Reason) (turns : List ℕ) →
    (VerdictOf results ≡ SingleOrdering reason turns)
    ↔ (NoneGives violation (counted results) × IsFirst reason_of results (reason, turns))

-- and then no alternate of that path ran, and none gave another reason
abbrev pub SingleIsOfPath : Type 0
SingleIsOfPath =
    (paths schedules : ℕ) (results : List JobResult) (reason : Reason) (turns : List ℕ) →
    AreResults paths schedules results → VerdictOf results ≡ SingleOrdering reason turns →
    (result : JobResult) → Contains results result → result.path ≡ 0 → 0 < result.schedule →
    (¬ IsRan result.kind) × ((second : Reason) (others : List ℕ) → result.kind ≡ Not second others →
    (reason ≡ second) × (turns ≡ others))

-- no job violates, and the hold gave no reason on the recorded path, so every job counted
abbrev pub IsEnforced : List JobResult → Type 0
IsEnforced results = NoneGives violation results × NoneGives reason_of results

-- outputs differ exactly by the first job that prints what its path does not admit
abbrev pub DiffersExactly : Type 0
DiffersExactly =
    (results : List JobResult) (verdict : Verdict) → IsOutputDiffers verdict →
    (VerdictOf results ≡ verdict) ↔ (IsEnforced results × IsFirst (difference results) results verdict)

-- a race is unresolved exactly by the first job that spent its budget, where no output differs
abbrev pub UnresolvedExactly : Type 0
UnresolvedExactly =
    (results : List JobResult) (verdict : Verdict) → IsUnresolved verdict →
    (VerdictOf results ≡ verdict)
    ↔ (IsEnforced results × NoneGives (difference results) results × IsFirst spending results verdict)

-- the runs have one input and one list of turns
abbrev pub IsSameRun : HarmlessRun → HarmlessRun → Type 0
IsSameRun one other = (one.input ≡ other.input) × (one.turns ≡ other.turns)

-- no two runs in the list have one input and one list of turns
abbrev pub AreDistinct : List HarmlessRun → Type 0
AreDistinct [] = Unit {0}
AreDistinct (run ∷ runs) = All (λ other. ¬ IsSameRun run other) runs × AreDistinct runs

-- the runs of the list are those of the alternates that exit with an output that their path admits, each input
-- with its turns once
pub record AreHarmlessRuns (results : List JobResult) (runs : List HarmlessRun) : Type 0 where
  pub differ : AreDistinct runs
  pub sound : (run : HarmlessRun) → Contains runs run →
      (result : JobResult) × Contains results result × (harmless result ≡ Some run)
  pub complete : (result : JobResult) (run : HarmlessRun) → Contains results result → harmless result ≡ Some run →
      (listed : HarmlessRun) × Contains runs listed × IsSameRun listed run

-- a race is harmless only where nothing else applies
abbrev pub HarmlessOnly : Type 0
HarmlessOnly =
    (results : List JobResult) (runs : List HarmlessRun) → VerdictOf results ≡ Harmless runs →
    IsEnforced results × NoneGives (difference results) results × NoneGives spending results
    × AreHarmlessRuns results runs

-- and then each alternate that exits stands among the runs, or repeats the input and the turns of one there
abbrev pub AlternatesAreListed : Type 0
AlternatesAreListed =
    (paths schedules : ℕ) (results : List JobResult) (runs : List HarmlessRun) → AreResults paths schedules results →
    VerdictOf results ≡ Harmless runs →
    (alternate : JobResult) (run : Run) → Contains results alternate → 0 < alternate.schedule →
    alternate.kind ≡ Ran run → IsTrue (is_exit run.outcome) →
    (listed : HarmlessRun) × Contains runs listed × (listed.input ≡ alternate.input) × (listed.turns ≡ run.turns)

-- and a run shows it
abbrev pub HarmlessHasRuns : Type 0
HarmlessHasRuns =
    (paths schedules : ℕ) (results : List JobResult) (runs : List HarmlessRun) → AreResults paths schedules results →
    VerdictOf results ≡ Harmless runs → runs ≢ []

-- of the results of a race's jobs the first that gives an answer is the least job that gives one
abbrev pub FirstIsLeast : Type 0
FirstIsLeast =
    (paths schedules : ℕ) (results : List JobResult) → AreResults paths schedules results →
    (answer : JobResult → Option Verdict) (verdict : Verdict) (first : IsFirst answer results verdict)
    (other : JobResult) → Contains results other → IsSome (answer other) → ¬ IsBefore other first.result

abbrev pub CountedIsLeast : Type 0
CountedIsLeast =
    (paths schedules : ℕ) (results : List JobResult) → AreResults paths schedules results →
    (verdict : Verdict) (first : IsFirst violation (counted results) verdict)
    (other : JobResult) → Contains (counted results) other → IsSome (violation other) →
    ¬ IsBefore other first.result
