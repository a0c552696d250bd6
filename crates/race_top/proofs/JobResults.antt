-- The results of a race's jobs are as the verdict asks.
use Rattle.std.proofs.Common.{◌≡◌, ◌≢◌, ℕ, zero, suc, ◌<◌, ◌⊎◌, Bool, true, false, cond, List, ◌∷◌, [], length, get_or, Option, Some, None, refl, sym, ap, subst, ◌∙◌, inl, inr, arith}
use Rattle.std.specs.Prelude.{Contains, IsSome, ◌&&◌}
use Rattle.ir_types.specs.declared.input.Input.{Input}
use Rattle.ir_types.specs.declared.«module».Module.{Module}
use Rattle.machine_model.specs.declared.access.Access.{Access}
use Rattle.run_types.specs.declared.case.Case.{Case}
use Rattle.run_types.specs.declared.race.Race.{Race}
use Rattle.run_types.specs.declared.run.Reason.{Reason}
use Rattle.run_types.specs.declared.run.Run.{Run}
use Rattle.machine_model.specs.declared.state.State.{State}
use Rattle.machine_model.specs.Begun.{Begun, begun_after}
use Rattle.machine_model.specs.Begun.Begun.{Complete, NotBegun, Ready}
use Rattle.machine_model.specs.Job.{Alternate, AlternateJob, hold_of, HoldPoint, PrimaryJob, alternate_from, hold_at, point_of, point_in}
use Rattle.machine_model.specs.Job.Alternate.{Ran, Not, Absent}
use Rattle.machine_model.specs.Moment.{Moment, access_at}
use Rattle.machine_model.specs.Primary.{setting_of}
use Rattle.machine_model.specs.Reach.{Reaches, from_first, primary_moments, reaches_after, reaches_from}
use Rattle.machine_model.specs.System.{System, machine_of}
use Rattle.race_verdict.specs.declared.result.JobKind.{JobKind}
use Rattle.race_verdict.specs.declared.result.JobKind.TheVariants as kinds
use Rattle.race_verdict.specs.declared.result.JobResult.{JobResult}
use Rattle.race_verdict.specs.declared.result.Judged.TheVariants.{Admitted, Never, NotJudged}
use Rattle.race_verdict.specs.Results.{AreResults, IsRan, job_of}
use Rattle.race_verdict.specs.Verdict.{is_exit, run_that}
use Rattle.race_top.specs.AnalyserPool.{judged_of, kind_of, results_of, same_output}

-- an element of a list of two is one of them
of-two : {A : Type 0} (one other found : A) → Contains (one ∷ other ∷ []) found → (found ≡ one) ⊎ (found ≡ other)
of-two one other found is = go is.0 is.1 is.2
  where
    go : (place : ℕ) → place < length (one ∷ other ∷ []) → get_or (one ∷ other ∷ []) place found ≡ found →
        (found ≡ one) ⊎ (found ≡ other)
    go zero within same = inl (sym same)
    go (suc zero) within same = inr (sym same)
    go (suc (suc place)) within same = absurd (omega arith)

-- a run that reaches the race has a hold point
point-after : {S : Type 0} (system : System S) (race : Race) (moments later : List (Moment S)) (moment : Moment S)
    (first : Option Access) →
    access_at system moment ≡ first → reaches_after system race later first ≡ true →
    point_in system moments (moment ∷ later) ≢ None
point-after system race moments later moment None is reaches none = let h : ⊥ = cc in h
point-after system race moments later moment (Some first) is reaches none = let h : ⊥ = cc in h

point-from : {S : Type 0} (system : System S) (race : Race) (moments rest : List (Moment S)) →
    reaches_from system race rest ≡ true →
    point_in system moments rest ≢ None
point-from system race moments [] reaches none = let h : ⊥ = cc in h
point-from system race moments (moment ∷ later) reaches none =
    point-after system race moments later moment (access_at system moment) refl reaches none

point-reached : (code : Module) (case : Case) (race : Race) (input : Input) → Reaches code case race input ≡ true →
    point_of code case race input ≢ None
unfolding Reaches point_of
point-reached code case race input reaches =
    point-from (machine_of (setting_of code case input)) race (primary_moments code case input)
    (from_first race (primary_moments code case input)) reaches

-- and so its alternate is not absent
from-begun : {S : Type 0} (system : System S) (listed : List ℕ) (schedule : ℕ) (begun : Begun S) →
    alternate_from system listed schedule (Some begun) ≢ Absent
from-begun system listed schedule (Ready past course) absent = let h : ⊥ = cc in h
from-begun system listed schedule (NotBegun reason course) absent = let h : ⊥ = cc in h
from-begun system listed schedule (Complete run) absent = let h : ⊥ = cc in h

present : (code : Module) (case : Case) (race : Race) (input : Input) → Reaches code case race input ≡ true →
    AlternateJob code case race input 1 ≢ Absent
unfolding hold_of
present code case race input reaches = go (point_of code case race input) refl
  where
    system : System State
    system = machine_of (setting_of code case input)

    go : (point : Option (HoldPoint State)) → point_of code case race input ≡ point →
        AlternateJob code case race input 1 ≢ Absent
    go None is absent = point-reached code case race input reaches is
    go (Some point) is absent =
        from-begun system case.turns 1 (begun_after system case.turns race (hold_at system case.turns race point))
        (rw (reaches, is) at absent)

kind-present : (alternate : Alternate) → alternate ≢ Absent → kind_of alternate ≢ kinds.Absent
kind-present (Ran run) some absent = let h : ⊥ = cc in h
kind-present (Not reason turns) some absent = let h : ⊥ = cc in h
kind-present Absent some absent = some refl

kind-unskipped : (alternate : Alternate) → kind_of alternate ≢ kinds.Skipped
kind-unskipped (Ran run) skipped = let h : ⊥ = cc in h
kind-unskipped (Not reason turns) skipped = let h : ⊥ = cc in h
kind-unskipped Absent skipped = let h : ⊥ = cc in h

not-run : (kind : JobKind) (reason : Reason) (turns : List ℕ) → kind ≡ kinds.Not reason turns → ¬ IsRan kind
not-run kind reason turns is run = let same = run.1 in let h : ⊥ = cc in h

-- two runs that exit are judged
judged-is_exit : (input : Input) (primary run : Run) (one two same : Bool) → is_exit primary.outcome ≡ one →
    is_exit run.outcome ≡ two → same_output primary.output run.output ≡ same →
    IsSome (cond one (Some primary) None) → IsSome (cond two (Some run) None) →
    cond (one && two) (cond same (Admitted input) Never) NotJudged ≢ NotJudged
judged-is_exit input primary run true true true first second third there again none = let h : ⊥ = cc in h
judged-is_exit input primary run true true false first second third there again none = let h : ⊥ = cc in h
judged-is_exit input primary run true false same first second third there again none = let h : ⊥ = cc in h
judged-is_exit input primary run false two same first second third there again none = let h : ⊥ = cc in h

judged-both : (input : Input) (primary : Run) (alternate : Alternate) → IsSome (run_that is_exit (kinds.Ran primary)) →
    IsSome (run_that is_exit (kind_of alternate)) → judged_of input primary alternate ≢ NotJudged
judged-both input primary (Ran run) there again none =
    judged-is_exit input primary run (is_exit primary.outcome) (is_exit run.outcome) (same_output primary.output run.output)
    refl refl refl there again none
judged-both input primary (Not reason turns) there again none = let h : ⊥ = cc in h
judged-both input primary Absent there again none = let h : ⊥ = cc in h

-- what the two jobs are
abbrev primary_result : Input → Run → JobResult
primary_result input primary =
    record { path = 0; schedule = 0; input = input; kind = kinds.Ran primary; judged = NotJudged }

abbrev alternate_result : Input → Run → Alternate → JobResult
alternate_result input primary alternate = record {
  path = 0;
  schedule = 1;
  input = input;
  kind = kind_of alternate;
  judged = judged_of input primary alternate;
}

-- one of the two results
abbrev Among : Input → Run → Alternate → JobResult → Type 0
Among input primary alternate result =
    (result ≡ primary_result input primary) ⊎ (result ≡ alternate_result input primary alternate)

apart : (number : ℕ) → number ≡ 0 → number ≡ 1 → ⊥
apart number none some = omega (arith, none, some)

recorded-there : (input : Input) (primary : Run) (alternate : Alternate) (result : JobResult) → alternate ≢ Absent →
    Among input primary alternate result → job_of result ≡ (0, 1) → result.kind ≢ kinds.Absent
recorded-there input primary alternate result some (inl is) job absent =
    apart result.schedule (ap (λ (it : JobResult). it.schedule) is) (ap (λ (numbers : ℕ × ℕ). numbers.1) job)
recorded-there input primary alternate result some (inr is) job absent =
    kind-present alternate some (sym (ap (λ (it : JobResult). it.kind) is) ∙ absent)

-- a result with schedule 0 is the primary's, and one above it the alternate's
is-primary : (input : Input) (primary : Run) (alternate : Alternate) (result : JobResult) →
    Among input primary alternate result → result.schedule ≡ 0 → result ≡ primary_result input primary
is-primary input primary alternate result (inl is) first = is
is-primary input primary alternate result (inr is) first =
    absurd (apart result.schedule first (ap (λ (it : JobResult). it.schedule) is))

is-alternate : (input : Input) (primary : Run) (alternate : Alternate) (result : JobResult) →
    Among input primary alternate result → 0 < result.schedule → result ≡ alternate_result input primary alternate
is-alternate input primary alternate result (inl is) later =
    let zero : result.schedule ≡ 0 = ap (λ (it : JobResult). it.schedule) is in absurd (omega arith)
is-alternate input primary alternate result (inr is) later = is

unskipped : (input : Input) (primary : Run) (alternate : Alternate) (result : JobResult) →
    Among input primary alternate result → result.kind ≢ kinds.Skipped
unskipped input primary alternate result (inl is) skipped =
    let same : kinds.Ran primary ≡ kinds.Skipped = sym (ap (λ (it : JobResult). it.kind) is) ∙ skipped in let h : ⊥ = cc in h
unskipped input primary alternate result (inr is) skipped =
    kind-unskipped alternate (sym (ap (λ (it : JobResult). it.kind) is) ∙ skipped)

same-not : (reason second : Reason) (turns others : List ℕ) → kinds.Not reason turns ≡ kinds.Not second others →
    (reason ≡ second) × (turns ≡ others)
same-not reason second turns others same = (cc, cc)

results-asked : (input : Input) (primary : Run) (alternate : Alternate) → alternate ≢ Absent →
    AreResults 1 1 (primary_result input primary ∷ alternate_result input primary alternate ∷ [])
results-asked input primary alternate some = record {
  path = omega arith;
  schedule = omega arith;
  jobs = refl;
  recorded = λ result among. recorded-there input primary alternate result some (member result among);
  ran = λ first second among later are is. inl (primary, ap (λ (it : JobResult). it.kind) (first-is first among are.0));
  held = λ one other reason turns among later are enforced.
      not-run other.kind reason turns
      (ap (λ (it : JobResult). it.kind) (second-is other later are.1 ∙ sym (second-is one among are.0)) ∙ enforced);
  reason = λ one other reason second turns others among later are enforced again.
      same-not reason second turns others
      (sym enforced ∙ ap (λ (it : JobResult). it.kind) (second-is one among are.0 ∙ sym (second-is other later are.1)) ∙ again);
  judged = λ first second among later are there again none.
      judged-both input primary alternate
      (subst (λ (kind : JobKind). IsSome (run_that is_exit kind)) (ap (λ (it : JobResult). it.kind) (first-is first among are.0)) there)
      (subst (λ (kind : JobKind). IsSome (run_that is_exit kind)) (ap (λ (it : JobResult). it.kind) (second-is second later are.1)) again)
      (sym (ap (λ (it : JobResult). it.judged) (second-is second later are.1)) ∙ none);
  skipped = λ result among skipped. absurd (unskipped input primary alternate result (member result among) skipped);
}
  where
    member : (result : JobResult) →
        Contains (primary_result input primary ∷ alternate_result input primary alternate ∷ []) result →
        Among input primary alternate result
    member result among = of-two (primary_result input primary) (alternate_result input primary alternate) result among

    first-is : (result : JobResult) →
        Contains (primary_result input primary ∷ alternate_result input primary alternate ∷ []) result →
        result.schedule ≡ 0 → result ≡ primary_result input primary
    first-is result among first = is-primary input primary alternate result (member result among) first

    second-is : (result : JobResult) →
        Contains (primary_result input primary ∷ alternate_result input primary alternate ∷ []) result →
        0 < result.schedule → result ≡ alternate_result input primary alternate
    second-is result among later = is-alternate input primary alternate result (member result among) later

pub jobs-asked : (code : Module) (case : Case) (race : Race) → Reaches code case race case.input ≡ true →
    AreResults 1 1 (results_of code case race)
unfolding results_of
jobs-asked code case race reaches =
    results-asked case.input (PrimaryJob code case case.input) (AlternateJob code case race case.input 1)
    (present code case race case.input reaches)
