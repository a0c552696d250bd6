-- The results stand in the order of their jobs.
use Rattle.std.proofs.Common.{◌≡◌, ℕ, zero, suc, ◌+◌, ◌≤◌, Bool, true, false, cond, List, [], ◌∷◌, ◌++◌, filter, get_or, map, Option, None, is_some, refl, sym, ap, subst, ◌∙◌, ◌⊎◌, inl, inr, arith}
use Rattle.std.specs.Prelude.{All, Contains, IsSome}
use Rattle.std.specs.List.{range_with_len}
use Rattle.std.proofs.lemmas.Bool.{false≢true}
use Rattle.std.proofs.lemmas.List.Elements.{All-append, All-cons, All-contains, All-filter, All-head, All-map, All-nil, All-tail, All-weaker, Contains-append_cases}
use Rattle.race_verdict.specs.declared.result.JobResult.{JobResult}
use Rattle.race_verdict.specs.declared.verdict.Verdict.{Verdict}
use Rattle.race_verdict.specs.Results.{AreResults, IsBefore, IsEarlier, job_of, jobs_from, jobs_of_path}
use Rattle.race_verdict.specs.Verdict.{counted, counts, first_of, reason_of, violation}
use Rattle.race_verdict.specs.VerdictLaws.{CountedIsLeast, FirstIsLeast, IsFirst}

-- each job of a list comes before those after it
Rise : List (ℕ × ℕ) → Type 0
Rise [] = Unit {0}
Rise (job ∷ jobs) = All (IsEarlier job) jobs × Rise jobs

-- of two lists that rise the second comes after the first
Rise-append : (front rest : List (ℕ × ℕ)) → Rise front → Rise rest → All (λ job. All (IsEarlier job) rest) front →
    Rise (front ++ rest)
unfolding Rise
Rise-append [] rest rises later after = later
Rise-append (job ∷ front) rest rises later after = (
  All-append (IsEarlier job) front rest rises.0 (All-head (λ job. All (IsEarlier job) rest) job front after),
  Rise-append front rest rises.1 later (All-tail (λ job. All (IsEarlier job) rest) job front after),
)

-- the jobs of one path from a schedule on
path-above : (path low start count : ℕ) → low + 1 ≤ start →
    All (IsEarlier (path, low)) (map (λ schedule. (path, schedule)) (range_with_len start count))
path-above path low start zero above = All-nil (IsEarlier (path, low))
path-above path low start (suc count) above =
    All-cons (IsEarlier (path, low)) (path, start) (map (λ schedule. (path, schedule)) (range_with_len (start + 1) count))
    (inr (refl, omega arith)) (path-above path low (start + 1) count (omega arith))

path-rises : (path start count : ℕ) → Rise (map (λ schedule. (path, schedule)) (range_with_len start count))
unfolding Rise
path-rises path start zero = tt
path-rises path start (suc count) = (
  path-above path start (start + 1) count (omega arith),
  path-rises path (start + 1) count,
)

-- the jobs of paths from a path on
jobs-from_path : (schedules path paths : ℕ) → All (λ job. path ≤ job.0) (jobs_from schedules path paths)
jobs-from_path schedules path zero = All-nil (λ job. path ≤ job.0)
jobs-from_path schedules path (suc paths) =
    All-append (λ job. path ≤ job.0) (jobs_of_path schedules path) (jobs_from schedules (suc path) paths)
    (All-map (λ job. path ≤ job.0) (λ schedule. (path, schedule)) (range_with_len 0 (suc schedules))
    (λ place. λ default. λ within. omega arith))
    (All-weaker (λ job. suc path ≤ job.0) (λ job. path ≤ job.0) (λ job. λ above. omega arith)
    (jobs_from schedules (suc path) paths) (jobs-from_path schedules (suc path) paths))

jobs-rise : (schedules path paths : ℕ) → Rise (jobs_from schedules path paths)
unfolding Rise
jobs-rise schedules path zero = tt
jobs-rise schedules path (suc paths) =
    Rise-append (jobs_of_path schedules path) (jobs_from schedules (suc path) paths)
    (path-rises path 0 (suc schedules)) (jobs-rise schedules (suc path) paths)
    (All-map (λ job. All (IsEarlier job) (jobs_from schedules (suc path) paths)) (λ schedule. (path, schedule))
    (range_with_len 0 (suc schedules))
    (λ place. λ default. λ within. later (get_or (range_with_len 0 (suc schedules)) place default)))
  where
    later : (schedule : ℕ) → All (IsEarlier (path, schedule)) (jobs_from schedules (suc path) paths)
    later schedule =
        All-weaker (λ job. suc path ≤ job.0) (IsEarlier (path, schedule)) (λ job. λ above. inl (omega arith))
        (jobs_from schedules (suc path) paths) (jobs-from_path schedules (suc path) paths)

-- what holds of each mapped value
All-of_map : {A B : Type 0} (P : B → Type 0) (make : A → B) (list : List A) → All P (map make list) →
    All (λ one. P (make one)) list
All-of_map P make [] all = All-nil (λ one. P (make one))
All-of_map P make (first ∷ rest) all =
    All-cons (λ one. P (make one)) first rest (All-head P (make first) (map make rest) all)
    (All-of_map P make rest (All-tail P (make first) (map make rest) all))

-- each result comes before those after it
InOrder : List JobResult → Type 0
InOrder [] = Unit {0}
InOrder (result ∷ results) = All (IsBefore result) results × InOrder results

InOrder-from_jobs : (results : List JobResult) → Rise (map job_of results) → InOrder results
unfolding InOrder Rise
InOrder-from_jobs [] rises = tt
InOrder-from_jobs (result ∷ results) rises = (
  All-of_map (IsEarlier (job_of result)) job_of results rises.0,
  InOrder-from_jobs results rises.1,
)

InOrder-filter : (test : JobResult → Bool) (results : List JobResult) → InOrder results → InOrder (filter test results)
unfolding InOrder
InOrder-filter test [] order = tt
InOrder-filter test (result ∷ results) order = go (test result) (InOrder-filter test results order.1)
  where
    go : (kept : Bool) → InOrder (filter test results) →
        InOrder (cond kept (result ∷ filter test results) (filter test results))
    go true later = (All-filter test (IsBefore result) results order.0, later)
    go false later = later

not-before : (one other : JobResult) → IsBefore one other → ¬ IsBefore other one
not-before one other (inl before) (inl after) = omega arith
not-before one other (inl before) (inr after) = omega arith
not-before one other (inr before) (inl after) = omega arith
not-before one other (inr before) (inr after) = omega arith

-- what stands behind a result comes after it
after-result : (front : List JobResult) (result : JobResult) (rest : List JobResult) → InOrder (front ++ result ∷ rest) →
    All (IsBefore result) rest
unfolding InOrder
after-result [] result rest order = order.0
after-result (first ∷ front) result rest order = after-result front result rest order.1

-- in order, the first that gives an answer is the least that gives one
first-least : (answer : JobResult → Option Verdict) (results : List JobResult) (verdict : Verdict)
    (first : IsFirst answer results verdict) (other : JobResult) → InOrder results → Contains results other →
    IsSome (answer other) → ¬ IsBefore other first.result
first-least answer results verdict first other order among some before =
    go (Contains-append_cases first.front (first.result ∷ first.rest) other
    (subst (λ results. Contains results other) first.parts among))
  where
    later : All (IsBefore first.result) first.rest
    later = after-result first.front first.result first.rest (subst InOrder first.parts order)

    go : Contains first.front other ⊎ Contains (first.result ∷ first.rest) other → ⊥
    go (inl earlier) =
        let none = All-contains (λ result. answer result ≡ None) first.front other first.before earlier in
        false≢true (sym (ap is_some none) ∙ some)
    go (inr (zero, within, is)) =
        let here : IsBefore other other = subst (IsBefore other) is before in not-before other other here here
    go (inr (suc place, within, is)) =
        not-before first.result other
        (All-contains (IsBefore first.result) first.rest other later (place, omega arith, is)) before

in-order : (paths schedules : ℕ) (results : List JobResult) → AreResults paths schedules results → InOrder results
in-order paths schedules results are =
    InOrder-from_jobs results (subst Rise (sym are.jobs) (jobs-rise schedules 0 paths))

pub first-is_least : FirstIsLeast
first-is_least paths schedules results are answer verdict first other among some =
    first-least answer results verdict first other (in-order paths schedules results are) among some

pub counted-is_least : CountedIsLeast
counted-is_least paths schedules results are verdict first other among some =
    first-least violation (counted results) verdict first other
    (InOrder-filter (counts (is_some (first_of reason_of results))) results (in-order paths schedules results are))
    among some
