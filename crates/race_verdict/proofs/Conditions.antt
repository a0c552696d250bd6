-- What follows from the conditions on the results of a race's jobs.
use Rattle.std.proofs.Common.{◌≡◌, ◌≢◌, ℕ, zero, suc, ◌<◌, Bool, true, false, cond, List, ◌∷◌, ◌++◌, length, Option, Some, None, is_some, eqb-true, refl, sym, ap, subst, inl, inr, ◌∙◌, ◌⊎◌, arith}
use Rattle.std.specs.Prelude.{Contains, IsTrue, ◌&&◌}
use Rattle.std.specs.List.{range_with_len}
use Rattle.std.proofs.lemmas.Bool.{and_parts, eq-eqb, false≢true, lt-ltb}
use Rattle.std.proofs.lemmas.List.Elements.{All-contains, Contains-append_cases, Contains-append_right}
use Rattle.run_types.specs.declared.run.Outcome.{Outcome}
use Rattle.run_types.specs.declared.run.Outcome.TheVariants.{Exit, Trap, Deadlock, Repeats, Spent}
use Rattle.run_types.specs.declared.run.Reason.{Reason}
use Rattle.run_types.specs.declared.run.Run.{Run}
use Rattle.race_verdict.specs.declared.result.JobKind.{JobKind}
use Rattle.race_verdict.specs.declared.result.JobKind.TheVariants.{Ran, Not, Absent, Skipped}
use Rattle.race_verdict.specs.declared.result.JobResult.{JobResult}
use Rattle.race_verdict.specs.declared.result.Judged.{Judged}
use Rattle.race_verdict.specs.declared.result.Judged.TheVariants.{Admitted, Never, NotJudged}
use Rattle.race_verdict.specs.declared.verdict.HarmlessRun.{HarmlessRun}
use Rattle.race_verdict.specs.Results.{AreAlternates, AreResults, IsAlternateOf, IsRan, job_of, jobs_from, jobs_of_path}
use Rattle.race_verdict.specs.Verdict.{NotEnforced, difference, differs_from, is_exit, first_of, harmless, harmless_by, is_alternate, is_first_alternate, is_never, is_primary_of, is_spent, primary_run, reason_in, reason_of, run_that, spending, spent_by, violated_by, violates, violation}
use Rattle.race_verdict.specs.VerdictLaws.{AlternatesAreListed, AreHarmlessRuns, HarmlessHasRuns, IsEnforced, IsFirst, NoneGives, SingleIsOfPath}
use Rattle.race_verdict.proofs.Classes.{single-exactly}
use Rattle.race_verdict.proofs.FirstAnswers.{none-is_all}
use Rattle.race_verdict.proofs.HarmlessRuns.{harmless-only}
use Rattle.race_verdict.proofs.Members.{Contains-first, Contains-mapped, Source, map-source}

-- a result that gives nothing
silent : {A : Type 0} (answer : JobResult → Option A) (results : List JobResult) (result : JobResult) →
    NoneGives answer results → Contains results result → answer result ≡ None
silent answer results result none among = All-contains (λ result. answer result ≡ None) results result none among

-- where no job violates, none is skipped
unskipped : (paths schedules : ℕ) (results : List JobResult) (result : JobResult) → AreResults paths schedules results →
    NoneGives violation results → Contains results result → result.kind ≢ Skipped
unskipped paths schedules results result are none among is =
    let after = are.skipped result among is in
    let here = silent violation results after.0 none after.1 in
    false≢true (sym (ap is_some here) ∙ after.2)

-- where no job violates or is spent, the run of a job exits
ran-is_exit : (results : List JobResult) (result : JobResult) (run : Run) → NoneGives violation results →
    NoneGives spending results → Contains results result → result.kind ≡ Ran run → IsTrue (is_exit run.outcome)
ran-is_exit results result run sound unspent among is =
    go run.outcome
    (sym (ap (λ kind. violated_by result (run_that violates kind)) is) ∙ silent violation results result sound among)
    (sym (ap (λ kind. spent_by result (run_that is_spent kind)) is) ∙ silent spending results result unspent among)
  where
    go : (outcome : Outcome) → violated_by result (cond (violates outcome) (Some run) None) ≡ None →
        spent_by result (cond (is_spent outcome) (Some run) None) ≡ None → IsTrue (is_exit outcome)
    go (Exit status) sound unspent = refl
    go (Trap trap thread site) sound unspent = absurd (let h : ⊥ = cc (sound) in h)
    go Deadlock sound unspent = absurd (let h : ⊥ = cc (sound) in h)
    go (Repeats turn earlier) sound unspent = absurd (let h : ⊥ = cc (sound) in h)
    go Spent sound unspent = absurd (let h : ⊥ = cc (unspent) in h)

-- the run of a job that exits
exiting-run : (kind : JobKind) (run : Run) → kind ≡ Ran run → IsTrue (is_exit run.outcome) →
    run_that is_exit kind ≡ Some run
exiting-run kind run is exited = ap (run_that is_exit) is ∙ ap (λ test. cond test (Some run) None) exited

-- the recorded path's first alternate ran, where nothing violates and there is no reason
alternate-ran : (paths schedules : ℕ) (results : List JobResult) (result : JobResult) →
    AreResults paths schedules results → IsEnforced results → Contains results result → job_of result ≡ (0, 1) →
    IsRan result.kind
alternate-ran paths schedules results result are enforced among job = go result.kind refl
  where
    first : is_first_alternate result ≡ true
    first = rw (ap (λ job. job.0) job, ap (λ job. job.1) job) refl

    go : (kind : JobKind) → result.kind ≡ kind → IsRan kind
    go (Ran run) is = (run, refl)
    go (Not reason turns) is =
        let none = silent reason_of results result enforced.1 among in
        let some : reason_of result ≡ Some (reason, turns) =
        ap (λ test. cond test (reason_in result.kind) None) first ∙ ap reason_in is in
        absurd (let h : ⊥ = cc (sym none ∙ some) in h)
    go Absent is = absurd (are.recorded result among job is)
    go Skipped is = absurd (unskipped paths schedules results result are enforced.0 among is)

-- the recorded path has an alternate
first-alternate : (paths schedules : ℕ) (results : List JobResult) → AreResults paths schedules results →
    Source job_of results (0, 1)
first-alternate zero schedules results are = absurd (omega (arith, are.path))
first-alternate (suc paths) zero results are = absurd (omega (arith, are.schedule))
first-alternate (suc paths) (suc schedules) results are =
    map-source job_of results (0, 1) (rw (are.jobs) (1, omega arith, refl))

-- each job is of a path that has a primary
path-primary : (schedules path paths : ℕ) (job : ℕ × ℕ) → Contains (jobs_from schedules path paths) job →
    Contains (jobs_from schedules path paths) (job.0, 0)
path-primary schedules path zero job among = absurd (omega (arith, among.1))
path-primary schedules path (suc paths) job among =
    go (path-primary schedules (suc path) paths job) (Contains-append_cases here later job among)
  where
    here : List (ℕ × ℕ)
    here = jobs_of_path schedules path

    later : List (ℕ × ℕ)
    later = jobs_from schedules (suc path) paths

    go : (Contains later job → Contains later (job.0, 0)) → Contains here job ⊎ Contains later job →
        Contains (here ++ later) (job.0, 0)
    go below (inl one) =
        let is = (map-source (λ schedule. (path, schedule)) (range_with_len 0 (suc schedules)) job one).2 in
        (0, omega arith, ap (λ job. (job.0, 0)) is)
    go below (inr one) = Contains-append_right here later (job.0, 0) (below one)

-- each alternate has its path's primary among the results
alternate-primary : (paths schedules : ℕ) (results : List JobResult) (alternate : JobResult) →
    AreResults paths schedules results → Contains results alternate → 0 < alternate.schedule →
    (primary : JobResult) × Contains results primary × IsAlternateOf primary alternate
alternate-primary paths schedules results alternate are among later =
    let one = map-source job_of results (alternate.path, 0)
    (subst (λ jobs. Contains jobs (alternate.path, 0)) (sym are.jobs)
    (path-primary schedules 0 paths (job_of alternate)
    (subst (λ jobs. Contains jobs (job_of alternate)) are.jobs (Contains-mapped job_of results alternate among)))) in
    (one.0, one.1, (ap (λ job. job.1) one.2, later, ap (λ job. job.0) one.2))

-- the harmless run that an alternate's run shows
abbrev IsShown : JobResult → Run → Type 0
IsShown alternate run =
    (shown : HarmlessRun) × (harmless alternate ≡ Some shown)
    × (shown.input ≡ alternate.input) × (shown.turns ≡ run.turns)

-- an alternate that exits shows its run, where its path's primary exits and its output does not differ
alternate-harmless : (paths schedules : ℕ) (results : List JobResult) (primary alternate : JobResult) (first run : Run) →
    AreResults paths schedules results → NoneGives (difference results) results → Contains results primary →
    Contains results alternate → IsAlternateOf primary alternate → run_that is_exit primary.kind ≡ Some first →
    run_that is_exit alternate.kind ≡ Some run → IsShown alternate run
unfolding difference
alternate-harmless paths schedules results primary alternate first run are equal recorded among of exited ran =
    go alternate.judged refl
  where
    later : is_alternate alternate ≡ true
    later = lt-ltb 0 alternate.schedule of.1

    exiting : Option Run
    exiting = run_that is_exit alternate.kind

    is_primary : is_primary_of alternate.path primary ≡ true
    is_primary = rw (eq-eqb primary.path alternate.path of.2, eq-eqb primary.schedule 0 of.0) refl

    has_primary : first_of (primary_run alternate.path) results ≢ None
    has_primary none =
        let silenced = silent (primary_run alternate.path) results primary
        ((none-is_all (primary_run alternate.path) results).0 none) recorded in
        let here : primary_run alternate.path primary ≡ Some first =
        ap (λ test. cond test (run_that is_exit primary.kind) None) is_primary ∙ exited in
        let h : ⊥ = cc (sym silenced ∙ here) in h

    no_difference : (found : Option Run) → found ≢ None → differs_from alternate found (Some run) ≢ None
    no_difference None some none = some refl
    no_difference (Some found) some none = let h : ⊥ = cc (none) in h

    go : (judged : Judged) → alternate.judged ≡ judged → IsShown alternate run
    go (Admitted input) is = (
      record {
        path = alternate.path;
        schedule = alternate.schedule;
        input = alternate.input;
        turns = run.turns;
        output = run.output;
        admitted = input;
      },
      ap (λ test. cond test (harmless_by alternate alternate.judged exiting) None) later
          ∙ ap (λ judged. harmless_by alternate judged exiting) is ∙ ap (harmless_by alternate (Admitted input)) ran,
      refl,
      refl,
    )
    go Never is =
        let found : Option Run = first_of (primary_run alternate.path) results in
        let differs : is_alternate alternate && is_never alternate.judged ≡ true = rw (later, is) refl in
        absurd (no_difference found has_primary
        (ap (differs_from alternate found) (sym ran)
        ∙ sym (ap (λ test. cond test (differs_from alternate found exiting) None) differs)
        ∙ silent (difference results) results alternate equal among))
    go NotJudged is =
        absurd (are.judged primary alternate recorded among of (ap is_some exited) (ap is_some ran) is)

pub alternates-are_listed : AlternatesAreListed
alternates-are_listed paths schedules results runs are e alternate run among later is exited =
    let one = alternate-primary paths schedules results alternate are among later in
    go one.0 one.1 one.2 (are.ran one.0 alternate one.1 among one.2 (run, is))
  where
    only : IsEnforced results × NoneGives (difference results) results × NoneGives spending results
        × AreHarmlessRuns results runs
    only = harmless-only results runs e

    IsListed : Type 0
    IsListed = (listed : HarmlessRun) × Contains runs listed × (listed.input ≡ alternate.input)
        × (listed.turns ≡ run.turns)

    go : (primary : JobResult) → Contains results primary → IsAlternateOf primary alternate →
        IsRan primary.kind ⊎ (primary.kind ≡ Skipped) → IsListed
    go primary recorded of (inl (first, reached)) =
        let first_exits = ran-is_exit results primary first only.0.0 only.2 recorded reached in
        let shown = alternate-harmless paths schedules results primary alternate first run are only.1 recorded among of
        (exiting-run primary.kind first reached first_exits) (exiting-run alternate.kind run is exited) in
        let listed = only.3.complete alternate shown.0 among shown.1 in
        (listed.0, listed.1, listed.2.0 ∙ shown.2, listed.2.1 ∙ shown.3)
    go primary recorded of (inr skipped) =
        absurd (unskipped paths schedules results primary are only.0.0 recorded skipped)

pub harmless-has_runs : HarmlessHasRuns
harmless-has_runs paths schedules results runs are e none =
    go (first-alternate paths schedules results are)
  where
    go : Source job_of results (0, 1) → ⊥
    go (alternate, among, job) =
        let only = harmless-only results runs e in
        let ran = alternate-ran paths schedules results alternate are only.0 among job in
        let later : 0 < alternate.schedule =
        subst (λ schedule. 0 < schedule) (sym (ap (λ job. job.1) job)) (omega arith) in
        let listed = alternates-are_listed paths schedules results runs are e alternate ran.0 among later ran.1
        (ran-is_exit results alternate ran.0 only.0.0 only.2 among ran.1) in
        let within : listed.1.0 < 0 = subst (λ runs. listed.1.0 < length runs) none listed.1.1 in
        omega arith

-- the job that gave a reason on the recorded path
reason-job : (result : JobResult) (reason : Reason) (turns : List ℕ) → reason_of result ≡ Some (reason, turns) →
    (result.path ≡ 0) × (result.schedule ≡ 1) × (result.kind ≡ Not reason turns)
reason-job result reason turns e = go (is_first_alternate result) refl e
  where
    kind : (kind : JobKind) → reason_in kind ≡ Some (reason, turns) → kind ≡ Not reason turns
    kind (Ran run) e = absurd (let h : ⊥ = cc (e) in h)
    kind (Not other others) e =
        let given : NotEnforced = (other, others) in
        let same : given ≡ (reason, turns) = cc (e) in ap (λ given. Not given.0 given.1) same
    kind Absent e = absurd (let h : ⊥ = cc (e) in h)
    kind Skipped e = absurd (let h : ⊥ = cc (e) in h)

    go : (first : Bool) → is_first_alternate result ≡ first →
        cond first (reason_in result.kind) None ≡ Some (reason, turns) →
        (result.path ≡ 0) × (result.schedule ≡ 1) × (result.kind ≡ Not reason turns)
    go true first e =
        let parts = and_parts _ _ first in
        (eqb-true result.path 0 parts.0, eqb-true result.schedule 1 parts.1, kind result.kind e)
    go false first e = absurd (let h : ⊥ = cc (e) in h)

pub single-of_path : SingleIsOfPath
single-of_path paths schedules results reason turns are e result among path later = (
  λ ran. are.held one.result result reason turns member among alternates job.2 ran,
  λ second. λ others. λ is. are.reason one.result result reason second turns others member among alternates job.2 is,
)
  where
    one : IsFirst reason_of results (reason, turns)
    one = ((single-exactly results reason turns).0 e).1

    member : Contains results one.result
    member =
        subst (λ results. Contains results one.result) (sym one.parts)
        (Contains-append_right one.front (one.result ∷ one.rest) one.result (Contains-first one.result one.rest))

    job : (one.result.path ≡ 0) × (one.result.schedule ≡ 1) × (one.result.kind ≡ Not reason turns)
    job = reason-job one.result reason turns one.says

    alternates : AreAlternates one.result result
    alternates = (rw (job.1) (omega arith), later, job.0 ∙ sym path)
