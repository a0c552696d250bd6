-- The class that a verdict has.
use Rattle.std.proofs.Common.{◌≡◌, ℕ, ◌≤◌, Bool, true, false, cond, List, [], ◌∷◌, filter, Option, Some, None, is_some, refl, sym, ap, ◌∙◌, arith}
use Rattle.std.specs.Prelude.{◌&&◌, ◌↔◌}
use Rattle.std.specs.List.{filter_map}
use Rattle.std.proofs.lemmas.Bool.{false≢true}
use Rattle.std.proofs.lemmas.List.Elements.{All-contains}
use Rattle.run_types.specs.declared.run.Run.{Run}
use Rattle.race_verdict.specs.declared.result.JobResult.{JobResult}
use Rattle.race_verdict.specs.declared.verdict.Verdict.{Verdict}
use Rattle.race_verdict.specs.declared.verdict.Verdict.TheVariants.{SingleOrdering, Harmless}
use Rattle.race_verdict.specs.Verdict.{NotEnforced, VerdictOf, counted, counts, difference, differs_from, distinct, else_, is_exit, first_of, harmless, is_alternate, is_never, is_spent, primary_run, reason_of, run_that, single_ordering, spending, spent_by, violated_by, violates, violation}
use Rattle.race_verdict.specs.VerdictLaws.{DiffersExactly, IsEnforced, IsFirst, IsSpecViolated, SingleExactly, UnresolvedExactly, ViolatedExactly, ViolationIsFound}
use Rattle.race_verdict.proofs.FirstAnswers.{none-is_all, some-is_first}
use Rattle.race_verdict.proofs.Order.{Gives, at_class, both, class-violated, class_of, differs-class, from_class, past_class, same, through, unresolved-class, violated-class}

some-class : (one other : Verdict) → Some one ≡ Some other → class_of other ≡ class_of one
some-class one other e = let same : other ≡ one = cc in ap class_of same

violation-gives : (result : JobResult) → Gives 0 (violation result)
violation-gives result verdict = go (run_that violates result.kind)
  where
    go : (found : Option Run) → violated_by result found ≡ Some verdict → class_of verdict ≡ 0
    go None e = absurd (let h : ⊥ = cc in h)
    go (Some run) e = some-class _ verdict e

single-gives : (reason : Option NotEnforced) → Gives 1 (single_ordering reason)
single-gives None verdict e = absurd (let h : ⊥ = cc in h)
single-gives (Some reason) verdict e = some-class _ verdict e

difference-gives : (results : List JobResult) (result : JobResult) → Gives 2 (difference results result)
unfolding difference
difference-gives results result verdict =
    go (is_alternate result && is_never result.judged)
    (first_of (primary_run result.path) results) (run_that is_exit result.kind)
  where
    go : (differs : Bool) (primary run : Option Run) →
        cond differs (differs_from result primary run) None ≡ Some verdict → class_of verdict ≡ 2
    go true None run e = absurd (let h : ⊥ = cc in h)
    go true (Some primary) None e = absurd (let h : ⊥ = cc in h)
    go true (Some primary) (Some run) e = some-class _ verdict e
    go false primary run e = absurd (let h : ⊥ = cc in h)

spending-gives : (result : JobResult) → Gives 3 (spending result)
spending-gives result verdict = go (run_that is_spent result.kind)
  where
    go : (found : Option Run) → spent_by result found ≡ Some verdict → class_of verdict ≡ 3
    go None e = absurd (let h : ⊥ = cc in h)
    go (Some run) e = some-class _ verdict e

first-gives : (class : ℕ) (answer : JobResult → Option Verdict) (results : List JobResult) →
    ((result : JobResult) → Gives class (answer result)) → Gives class (first_of answer results)
first-gives class answer results gives verdict some =
    let first : IsFirst answer results verdict = (some-is_first answer results verdict).0 some in
    gives first.result verdict first.says

-- what comes after the violations, and so on
pub after_difference : List JobResult → Verdict
after_difference results = else_ (first_of spending results) (Harmless (distinct (filter_map harmless results)))

pub after_single : List JobResult → Verdict
after_single results = else_ (first_of (difference results) results) (after_difference results)

after_violation : List JobResult → Verdict
after_violation results = else_ (single_ordering (first_of reason_of results)) (after_single results)

verdict-parts : (results : List JobResult) →
    VerdictOf results ≡ else_ (first_of violation (counted results)) (after_violation results)
unfolding VerdictOf after_violation after_single after_difference
verdict-parts results = refl

after_difference-class : (results : List JobResult) → 3 ≤ class_of (after_difference results)
unfolding after_difference
after_difference-class results =
    from_class 3 (first_of spending results) _ (first-gives 3 spending results spending-gives) (omega arith)

after_single-class : (results : List JobResult) → 2 ≤ class_of (after_single results)
unfolding after_single
after_single-class results =
    from_class 2 (first_of (difference results) results) _
    (first-gives 2 (difference results) results (difference-gives results)) (after_difference-class results)

after_violation-class : (results : List JobResult) → 1 ≤ class_of (after_violation results)
unfolding after_violation
after_violation-class results =
    from_class 1 (single_ordering (first_of reason_of results)) _
    (single-gives (first_of reason_of results)) (after_single-class results)

-- a verdict of a later class than the violations
past-violation : (results : List JobResult) (verdict : Verdict) → 1 ≤ class_of verdict →
    (VerdictOf results ≡ verdict) ↔ ((first_of violation (counted results) ≡ None) × (after_violation results ≡ verdict))
past-violation results verdict after =
    rw (verdict-parts results)
    (past_class 0 (first_of violation (counted results)) (after_violation results) verdict
    (first-gives 0 violation (counted results) violation-gives) after)

filter-all : (results : List JobResult) → filter (counts false) results ≡ results
filter-all [] = refl
filter-all (result ∷ results) = ap (λ rest. result ∷ rest) (filter-all results)

single-none : (reason : Option NotEnforced) → (single_ordering reason ≡ None) ↔ (reason ≡ None)
single-none None = (λ e. refl, λ e. refl)
single-none (Some reason) = (λ e. absurd (let h : ⊥ = cc in h), λ e. absurd (let h : ⊥ = cc in h))

all-counted : (results : List JobResult) → first_of reason_of results ≡ None → counted results ≡ results
all-counted results none = ap (λ reason. filter (counts (is_some reason)) results) none ∙ filter-all results

-- no violation that counts and no reason
enforced : (results : List JobResult) →
    ((first_of violation (counted results) ≡ None) × (single_ordering (first_of reason_of results) ≡ None))
    ↔ IsEnforced results
enforced results = (
  λ p.
      let none = (single-none (first_of reason_of results)).0 p.1 in (
        (none-is_all violation results).0 (sym (ap (first_of violation) (all-counted results none)) ∙ p.0),
        (none-is_all reason_of results).0 none,
      ),
  λ p.
      let none = (none-is_all reason_of results).1 p.1 in (
        ap (first_of violation) (all-counted results none) ∙ (none-is_all violation results).1 p.0,
        (single-none (first_of reason_of results)).1 none,
      ),
)

-- a verdict of a later class than the single ordering
pub past-single : (results : List JobResult) (verdict : Verdict) → 2 ≤ class_of verdict →
    (VerdictOf results ≡ verdict) ↔ (IsEnforced results × (after_single results ≡ verdict))
unfolding after_violation
past-single results verdict after =
    let first = past-violation results verdict (omega arith) in
    let second = past_class 1 (single_ordering (first_of reason_of results)) (after_single results) verdict
    (single-gives (first_of reason_of results)) after in (
      λ e.
          let one = first.0 e in
          let two = second.0 one.1 in
          ((enforced results).0 (one.0, two.0), two.1),
      λ p. let none = (enforced results).1 p.0 in first.1 (none.0, second.1 (none.1, p.1)),
    )

-- a verdict of a later class than the differences
pub past-difference : (results : List JobResult) (verdict : Verdict) → 3 ≤ class_of verdict →
    (after_single results ≡ verdict)
    ↔ ((first_of (difference results) results ≡ None) × (after_difference results ≡ verdict))
unfolding after_single
past-difference results verdict after =
    past_class 2 (first_of (difference results) results) (after_difference results) verdict
    (first-gives 2 (difference results) results (difference-gives results)) after

-- a verdict of a later class than the spent jobs
pub past-spending : (results : List JobResult) (verdict : Verdict) → 4 ≤ class_of verdict →
    (after_difference results ≡ verdict)
    ↔ ((first_of spending results ≡ None) × (Harmless (distinct (filter_map harmless results)) ≡ verdict))
unfolding after_difference
past-spending results verdict after =
    past_class 3 (first_of spending results) (Harmless (distinct (filter_map harmless results))) verdict
    (first-gives 3 spending results spending-gives) after

pub violated-exactly : ViolatedExactly
violated-exactly results verdict is =
    rw (verdict-parts results)
    (through
    (at_class 0 (first_of violation (counted results)) (after_violation results) verdict (violated-class verdict is)
    (after_violation-class results))
    (some-is_first violation (counted results) verdict))

pub violation-found : ViolationIsFound
violation-found results result among some =
    go (first_of violation (counted results)) refl
  where
    go : (found : Option Verdict) → first_of violation (counted results) ≡ found → IsSpecViolated (VerdictOf results)
    go None none =
        let here = All-contains (λ result. violation result ≡ None) (counted results) result
        ((none-is_all violation (counted results)).0 none) among in
        absurd (false≢true (sym (ap is_some here) ∙ some))
    go (Some found) is =
        let verdict : VerdictOf results ≡ found =
        verdict-parts results ∙ ap (λ found. else_ found (after_violation results)) is in
        class-violated (VerdictOf results)
        (ap class_of verdict ∙ first-gives 0 violation (counted results) violation-gives found is)

single-some : (found : Option NotEnforced) (reason : NotEnforced) →
    (single_ordering found ≡ Some (SingleOrdering reason.0 reason.1)) ↔ (found ≡ Some reason)
single-some None reason = (λ e. absurd (let h : ⊥ = cc in h), λ e. absurd (let h : ⊥ = cc in h))
single-some (Some found) reason = (
  λ e.
      let one : found.0 ≡ reason.0 = cc in
      let other : found.1 ≡ reason.1 = cc in
      λ i. Some (one i, other i),
  λ e. ap single_ordering e,
)

pub single-exactly : SingleExactly
unfolding after_violation
single-exactly results reason turns =
    through (past-violation results (SingleOrdering reason turns) (omega arith))
    (both (none-is_all violation (counted results))
    (through
    (at_class 1 (single_ordering (first_of reason_of results)) (after_single results) (SingleOrdering reason turns) refl
    (after_single-class results))
    (through (single-some (first_of reason_of results) (reason, turns))
    (some-is_first reason_of results (reason, turns)))))

pub differs-exactly : DiffersExactly
unfolding after_single
differs-exactly results verdict is =
    let class : class_of verdict ≡ 2 = differs-class verdict is in
    through (past-single results verdict (omega arith))
    (both same
    (through
    (at_class 2 (first_of (difference results) results) (after_difference results) verdict class
    (after_difference-class results))
    (some-is_first (difference results) results verdict)))

pub unresolved-exactly : UnresolvedExactly
unfolding after_difference
unresolved-exactly results verdict is =
    let class : class_of verdict ≡ 3 = unresolved-class verdict is in
    let enforced = past-single results verdict (omega arith) in
    let equal = past-difference results verdict (omega arith) in
    let none = none-is_all (difference results) results in
    let first = through
    (at_class 3 (first_of spending results) (Harmless (distinct (filter_map harmless results))) verdict class
    (omega arith))
    (some-is_first spending results verdict) in (
      λ e.
          let one = enforced.0 e in
          let two = equal.0 one.1 in
          (one.0, none.0 two.0, first.0 two.1),
      λ p. enforced.1 (p.0, equal.1 (none.1 p.1, first.1 p.2)),
    )
