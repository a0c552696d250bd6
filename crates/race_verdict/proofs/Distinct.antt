-- Runs that differ in input or turns, in a loop that lists them.
use Rattle.std.proofs.Common.{◌≡◌, ℕ, ◌+◌, ◌<◌, Bool, true, false, cond, List, [], ◌∷◌, ◌++◌, filter, length, take, get_or, Option, Some, None, refl, sym, ap, ◌∙◌}
use Rattle.std.specs.Prelude.{◌||◌, not}
use Rattle.std.specs.Bool.{Decides}
use Rattle.std.specs.List.{cons_option, filter_map, list_any}
use Rattle.std.proofs.lemmas.Bool.Decides.{Decides-and, Decides-eqb, Decides-like, same_from_decides}
use Rattle.std.proofs.lemmas.Slice.Eq.{slice_eq-Decides}
use Rattle.std.proofs.lemmas.List.{append-nil, take_more}
use Rattle.std.proofs.lemmas.List.Elements.{filter-append, filter_map-append}
use Rattle.ir_types.proofs.InputLemmas.{input_decides}
use Rattle.race_verdict.specs.declared.result.JobResult.{JobResult}
use Rattle.race_verdict.specs.declared.verdict.HarmlessRun.{HarmlessRun}
use Rattle.race_verdict.specs.Verdict.{distinct, harmless, same_run, with_run}
use Rattle.race_verdict.specs.VerdictLaws.{IsSameRun}

pub same_run_decides : (one other : HarmlessRun) → Decides (same_run one other) (IsSameRun one other)
same_run_decides one other =
    Decides-and _ _ (input_decides one.input other.input) (slice_eq-Decides Decides-eqb one.turns other.turns _ refl)

-- equal runs are like the same runs
same_run-like : (one other third : HarmlessRun) → same_run one other ≡ true → same_run one third ≡ same_run other third
same_run-like one other third like =
    let same : IsSameRun one other = (same_run_decides one other).0 like in
    same_from_decides _ _ (same_run_decides one third)
    (Decides-like _ (λ p. (same.0 ∙ p.0, same.1 ∙ p.1)) (λ p. (sym same.0 ∙ p.0, sym same.1 ∙ p.1))
    (same_run_decides other third))

-- where a run is unlike a first one, those that are like it stay among those that are unlike the first
any-unlike : (first third : HarmlessRun) (runs : List HarmlessRun) → same_run first third ≡ false →
    list_any (λ run. same_run run third) (filter (λ run. not (same_run first run)) runs)
    ≡ list_any (λ run. same_run run third) runs
any-unlike first third [] unlike = refl
any-unlike first third (run ∷ runs) unlike =
    go (same_run first run) refl (any-unlike first third runs unlike)
  where
    left : List HarmlessRun
    left = filter (λ run. not (same_run first run)) runs

    go : (like : Bool) → same_run first run ≡ like →
        list_any (λ run. same_run run third) left ≡ list_any (λ run. same_run run third) runs →
        list_any (λ run. same_run run third) (cond (not like) (run ∷ left) left)
        ≡ (same_run run third || list_any (λ run. same_run run third) runs)
    go true is later = later ∙ ap (λ like. like || list_any (λ run. same_run run third) runs)
        (sym unlike ∙ same_run-like first run third is)
    go false is later = ap (λ any. same_run run third || any) later

-- those that are unlike a first run, with one more
filter-push : (first run : HarmlessRun) (runs : List HarmlessRun) →
    filter (λ run. not (same_run first run)) (runs ++ run ∷ [])
    ≡ filter (λ run. not (same_run first run)) runs ++ cond (same_run first run) [] (run ∷ [])
filter-push first run runs =
    filter-append (λ run. not (same_run first run)) runs (run ∷ [])
    ∙ ap (λ rest. filter (λ run. not (same_run first run)) runs ++ rest) (go (same_run first run))
  where
    go : (like : Bool) → cond (not like) (run ∷ []) [] ≡ cond like [] (run ∷ [])
    go true = refl
    go false = refl

-- the distinct runs of a list with one more run
pub distinct-push : (runs : List HarmlessRun) (run : HarmlessRun) →
    distinct (runs ++ run ∷ []) ≡ with_run (distinct runs) run
unfolding distinct
distinct-push [] run = refl
distinct-push (first ∷ runs) run =
    ap (λ runs. first ∷ filter (λ run. not (same_run first run)) runs) (distinct-push runs run)
    ∙ go (same_run first run) refl (list_any (λ one. same_run one run) (distinct runs)) refl
  where
    left : List HarmlessRun
    left = filter (λ run. not (same_run first run)) (distinct runs)

    go : (like : Bool) → same_run first run ≡ like → (listed : Bool) →
        list_any (λ one. same_run one run) (distinct runs) ≡ listed →
        first ∷ filter (λ run. not (same_run first run)) (cond listed (distinct runs) (distinct runs ++ run ∷ []))
        ≡ cond (like || list_any (λ one. same_run one run) left) (first ∷ left) (first ∷ left ++ run ∷ [])
    go true is true any = refl
    go true is false any = ap (λ runs. first ∷ runs) (filter-push first run (distinct runs) ∙ rw is (append-nil _))
    go false is true any = rw (any-unlike first run (distinct runs) is, any) refl
    go false is false any =
        rw (any-unlike first run (distinct runs) is, any)
        (ap (λ runs. first ∷ runs) (filter-push first run (distinct runs) ∙ rw is refl))

-- the harmless runs of the results before a place and of the one that stands there
harmless-push : (results : List JobResult) (place : ℕ) (result : JobResult) (answer : Option HarmlessRun) →
    place < length results → result ≡ get_or results place result → harmless result ≡ answer →
    filter_map harmless (take (place + 1) results)
    ≡ filter_map harmless (take place results) ++ cons_option answer []
harmless-push results place result answer within is here =
    ap (filter_map harmless) (take_more results place result within ∙ ap (λ one. take place results ++ one ∷ []) (sym is))
    ∙ filter_map-append harmless (take place results) (result ∷ [])
    ∙ ap (λ answer. filter_map harmless (take place results) ++ cons_option answer []) here

pub none_more : (results : List JobResult) (place : ℕ) (result : JobResult) (runs : List HarmlessRun) →
    place < length results → result ≡ get_or results place result →
    runs ≡ distinct (filter_map harmless (take place results)) → harmless result ≡ None →
    runs ≡ distinct (filter_map harmless (take (place + 1) results))
none_more results place result runs within is before none =
    before ∙ ap distinct (sym (harmless-push results place result None within is none ∙ append-nil _))

pub some_more : (results : List JobResult) (place : ℕ) (result : JobResult) (runs : List HarmlessRun) (run : HarmlessRun) →
    place < length results → result ≡ get_or results place result →
    runs ≡ distinct (filter_map harmless (take place results)) → harmless result ≡ Some run →
    with_run runs run ≡ distinct (filter_map harmless (take (place + 1) results))
some_more results place result runs run within is before some =
    ap (λ runs. with_run runs run) before ∙ sym
    (ap distinct (harmless-push results place result (Some run) within is some)
    ∙ distinct-push (filter_map harmless (take place results)) run)
