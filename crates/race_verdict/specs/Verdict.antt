-- The class of a race, from the results of its jobs, which stand in order: the first of these that applies. A job that
-- violates the specification; the hold's reason on the recorded path; another output; a spent job; else the runs
-- of the second order, which are harmless.
use Rattle.std.specs.Prelude.{ℕ, Bool, true, false, not, ◌&&◌, ◌||◌, ◌==◌, nat_eq, nat_lt, List, [], ◌∷◌, ◌++◌, filter, slice_get, Option, Some, None, is_some, if◌then◌else◌}
use Rattle.std.specs.Cmp.Lexicographic.{pointwise}
use Rattle.std.specs.List.{filter_map, list_any}
use Rattle.ir_types.specs.contracts.input.InputPartialEq.TheImpl as inputs
use Rattle.run_types.specs.declared.run.Outcome.{Outcome}
use Rattle.run_types.specs.declared.run.Outcome.TheVariants.{Exit, Trap, Deadlock, Repeats, Spent}
use Rattle.run_types.specs.declared.run.Reason.{Reason}
use Rattle.run_types.specs.declared.run.Run.{Run}
use Rattle.race_verdict.specs.declared.result.JobKind.{JobKind}
use Rattle.race_verdict.specs.declared.result.JobKind.TheVariants.{Ran, Not, Absent, Skipped}
use Rattle.race_verdict.specs.declared.result.JobResult.{JobResult}
use Rattle.race_verdict.specs.declared.result.Judged.{Judged}
use Rattle.race_verdict.specs.declared.result.Judged.TheVariants.{Admitted, Never, NotJudged}
use Rattle.race_verdict.specs.declared.verdict.HarmlessRun.{HarmlessRun}
use Rattle.race_verdict.specs.declared.verdict.Verdict.{Verdict}
use Rattle.race_verdict.specs.declared.verdict.Verdict.TheVariants.{SpecViolated, SingleOrdering, OutputDiffers, Unresolved, Harmless}

abbrev pub violates : Outcome → Bool
violates (Exit status) = false
violates (Trap trap thread site) = true
violates Deadlock = true
violates (Repeats turn earlier) = true
violates Spent = false

abbrev pub is_exit : Outcome → Bool
is_exit (Exit status) = true
is_exit (Trap trap thread site) = false
is_exit Deadlock = false
is_exit (Repeats turn earlier) = false
is_exit Spent = false

abbrev pub is_spent : Outcome → Bool
is_spent (Exit status) = false
is_spent (Trap trap thread site) = false
is_spent Deadlock = false
is_spent (Repeats turn earlier) = false
is_spent Spent = true

-- the run of a job that ends in a way of this kind
abbrev pub run_that : (Outcome → Bool) → JobKind → Option Run
run_that test (Ran run) = if test run.outcome then Some run else None
run_that test (Not reason turns) = None
run_that test Absent = None
run_that test Skipped = None

abbrev pub is_alternate : JobResult → Bool
is_alternate result = nat_lt 0 result.schedule

-- the first answer that some result gives
abbrev pub first_of : {A : Type 0} → (JobResult → Option A) → List JobResult → Option A
first_of answer results = slice_get (filter_map answer results) 0

-- a reason why the second order can't be enforced, with the turns that were taken
abbrev pub NotEnforced : Type 0
NotEnforced = Reason × List ℕ

abbrev pub reason_in : JobKind → Option NotEnforced
reason_in (Ran run) = None
reason_in (Not reason turns) = Some (reason, turns)
reason_in Absent = None
reason_in Skipped = None

-- of the first alternate of the recorded path
abbrev pub is_first_alternate : JobResult → Bool
is_first_alternate result = (result.path == 0) && (result.schedule == 1)

abbrev pub reason_of : JobResult → Option NotEnforced
reason_of result = if is_first_alternate result then reason_in result.kind else None

-- the primary of a path
abbrev pub is_primary_of : ℕ → JobResult → Bool
is_primary_of path result = (result.path == path) && (result.schedule == 0)

-- where the hold gave a reason on the recorded path, its primary alone counts among the jobs that may violate
abbrev pub counts : Bool → JobResult → Bool
counts primary_alone result = not primary_alone || is_primary_of 0 result

abbrev pub counted : List JobResult → List JobResult
counted results = filter (counts (is_some (first_of reason_of results))) results

abbrev pub violated_by : JobResult → Option Run → Option Verdict
violated_by result None = None
violated_by result (Some run) =
    Some (SpecViolated result.path result.schedule result.input run.turns run.outcome)

abbrev pub violation : JobResult → Option Verdict
violation result = violated_by result (run_that violates result.kind)

abbrev pub single_ordering : Option NotEnforced → Option Verdict
single_ordering None = None
single_ordering (Some reason) = Some (SingleOrdering reason.0 reason.1)

-- the run of a path's primary, where it exits
abbrev pub primary_run : ℕ → JobResult → Option Run
primary_run path result = if is_primary_of path result then run_that is_exit result.kind else None

abbrev pub is_never : Judged → Bool
is_never (Admitted input) = false
is_never Never = true
is_never NotJudged = false

abbrev pub differs_from : JobResult → Option Run → Option Run → Option Verdict
differs_from result (Some primary) (Some run) =
    Some (OutputDiffers result.path result.schedule result.input primary.turns primary.output run.turns run.output)
differs_from result (Some primary) None = None
differs_from result None run = None

-- an alternate that exits with an output that its path, whose primary exits, does not admit
unfoldable pub difference : List JobResult → JobResult → Option Verdict
difference results result =
    if is_alternate result && is_never result.judged
    then differs_from result (first_of (primary_run result.path) results) (run_that is_exit result.kind)
    else None

abbrev pub spent_by : JobResult → Option Run → Option Verdict
spent_by result None = None
spent_by result (Some run) = Some (Unresolved result.path result.schedule result.input run.turns)

abbrev pub spending : JobResult → Option Verdict
spending result = spent_by result (run_that is_spent result.kind)

abbrev pub harmless_by : JobResult → Judged → Option Run → Option HarmlessRun
harmless_by result (Admitted input) (Some run) = Some (record {
  path = result.path;
  schedule = result.schedule;
  input = result.input;
  turns = run.turns;
  output = run.output;
  admitted = input;
})
harmless_by result (Admitted input) None = None
harmless_by result Never run = None
harmless_by result NotJudged run = None

-- an alternate that exits with an output that its path admits
abbrev pub harmless : JobResult → Option HarmlessRun
harmless result =
    if is_alternate result then harmless_by result result.judged (run_that is_exit result.kind) else None

-- equal inputs and turns
abbrev pub same_run : HarmlessRun → HarmlessRun → Bool
same_run one other = (inputs.ghosts).eq one.input other.input && pointwise nat_eq one.turns other.turns

-- the runs without those whose input and turns stand before them
unfoldable pub distinct : List HarmlessRun → List HarmlessRun
distinct [] = []
distinct (run ∷ runs) = run ∷ filter (λ other. not (same_run run other)) (distinct runs)

-- the runs with one more at their end, unless one with its input and turns is among them
abbrev pub with_run : List HarmlessRun → HarmlessRun → List HarmlessRun
with_run runs run = if list_any (λ one. same_run one run) runs then runs else runs ++ run ∷ []

-- the first of two answers, where there is one
abbrev pub else_ : Option Verdict → Verdict → Verdict
else_ (Some verdict) other = verdict
else_ None other = other

-- the class of the race, with its evidence
unfoldable pub VerdictOf : List JobResult → Verdict
VerdictOf results =
    else_ (first_of violation (counted results))
    (else_ (single_ordering (first_of reason_of results))
    (else_ (first_of (difference results) results)
    (else_ (first_of spending results)
    (Harmless (distinct (filter_map harmless results))))))
