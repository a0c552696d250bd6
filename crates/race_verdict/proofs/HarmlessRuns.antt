-- The list of harmless runs: each input with its turns once.
use Rattle.std.proofs.Common.{◌≡◌, zero, suc, Bool, true, false, cond, List, [], ◌∷◌, filter, refl, sym, ap, subst, ◌∙◌, arith}
use Rattle.std.specs.Prelude.{All, Contains, not}
use Rattle.std.specs.List.{filter_map}
use Rattle.std.proofs.lemmas.Bool.{true≢false}
use Rattle.std.proofs.lemmas.List.Elements.{All-filter, All-weaker, filter_passes}
use Rattle.race_verdict.specs.declared.result.JobResult.{JobResult}
use Rattle.race_verdict.specs.declared.verdict.HarmlessRun.{HarmlessRun}
use Rattle.race_verdict.specs.declared.verdict.Verdict.TheVariants.{Harmless}
use Rattle.race_verdict.specs.Verdict.{difference, distinct, harmless, same_run, spending}
use Rattle.race_verdict.specs.VerdictLaws.{AreDistinct, AreHarmlessRuns, HarmlessOnly, IsSameRun}
use Rattle.race_verdict.proofs.Classes.{past-difference, past-single, past-spending}
use Rattle.race_verdict.proofs.Distinct.{same_run_decides}
use Rattle.race_verdict.proofs.FirstAnswers.{none-is_all}
use Rattle.race_verdict.proofs.Members.{Contains-filtered, Contains-first, Contains-kept, Contains-later, filter_map-complete, filter_map-sound}

-- runs that are unlike a first one differ from it
unlike-apart : (first : HarmlessRun) (runs : List HarmlessRun) →
    All (λ other. ¬ IsSameRun first other) (filter (λ other. not (same_run first other)) runs)
unlike-apart first runs = All-weaker (λ other. not (same_run first other) ≡ true) (λ other. ¬ IsSameRun first other)
    (λ other. λ passes. λ same. true≢false (sym passes ∙ ap not ((same_run_decides first other).1 same)))
    (filter (λ other. not (same_run first other)) runs)
    (filter_passes (λ other. not (same_run first other)) runs)

filter-distinct : (test : HarmlessRun → Bool) (runs : List HarmlessRun) → AreDistinct runs → AreDistinct (filter test runs)
filter-distinct test [] apart = tt
filter-distinct test (run ∷ runs) apart = go (test run) (filter-distinct test runs apart.1)
  where
    go : (kept : Bool) → AreDistinct (filter test runs) → AreDistinct (cond kept (run ∷ filter test runs) (filter test runs))
    go true later = (All-filter test (λ other. ¬ IsSameRun run other) runs apart.0, later)
    go false later = later

distinct-are_distinct : (runs : List HarmlessRun) → AreDistinct (distinct runs)
unfolding distinct
distinct-are_distinct [] = tt
distinct-are_distinct (run ∷ runs) = (
  unlike-apart run (distinct runs),
  filter-distinct (λ other. not (same_run run other)) (distinct runs) (distinct-are_distinct runs),
)

-- each of the distinct runs is one of the runs
distinct-sound : (runs : List HarmlessRun) (run : HarmlessRun) → Contains (distinct runs) run → Contains runs run
unfolding distinct
distinct-sound [] run among = among
distinct-sound (first ∷ runs) run (zero, within, is) = (0, omega arith, is)
distinct-sound (first ∷ runs) run (suc place, within, is) =
    Contains-later first runs run
    (distinct-sound runs run
    (Contains-kept (λ other. not (same_run first other)) (distinct runs) run (place, omega arith, is)))

-- each of the runs has one like it among the distinct ones
Listed : List HarmlessRun → HarmlessRun → Type 0
Listed runs run = (listed : HarmlessRun) × Contains runs listed × IsSameRun listed run

distinct-complete : (runs : List HarmlessRun) (run : HarmlessRun) → Contains runs run → Listed (distinct runs) run
unfolding distinct Listed
distinct-complete [] run among = absurd (omega (arith, among.1))
distinct-complete (first ∷ runs) run (zero, within, is) = (
  first,
  Contains-first first (filter (λ other. not (same_run first other)) (distinct runs)),
  (ap (λ run. run.input) is, ap (λ run. run.turns) is),
)
distinct-complete (first ∷ runs) run (suc place, within, is) =
    go (distinct-complete runs run (place, omega arith, is))
  where
    left : List HarmlessRun
    left = filter (λ other. not (same_run first other)) (distinct runs)

    cases : (listed : HarmlessRun) → Contains (distinct runs) listed → IsSameRun listed run → (like : Bool) →
        same_run first listed ≡ like → Listed (first ∷ left) run
    cases listed among same true like =
        let first_is = (same_run_decides first listed).0 like in
        (first, Contains-first first left, (first_is.0 ∙ same.0, first_is.1 ∙ same.1))
    cases listed among same false like = (
      listed,
      Contains-later first left listed
          (Contains-filtered (λ other. not (same_run first other)) (distinct runs) listed among (ap not like)),
      same,
    )

    go : Listed (distinct runs) run → Listed (first ∷ left) run
    go (listed, among, same) = cases listed among same (same_run first listed) refl

distinct-are_harmless : (results : List JobResult) →
    AreHarmlessRuns results (distinct (filter_map harmless results))
unfolding Listed
distinct-are_harmless results = record {
  differ = distinct-are_distinct (filter_map harmless results);
  sound = λ run. λ among.
      filter_map-sound harmless results run (distinct-sound (filter_map harmless results) run among);
  complete = λ result. λ run. λ among. λ some.
      distinct-complete (filter_map harmless results) run
      (filter_map-complete harmless results result run among some);
}

pub harmless-only : HarmlessOnly
harmless-only results runs e =
    let single = (past-single results (Harmless runs) (omega arith)).0 e in
    let equal = (past-difference results (Harmless runs) (omega arith)).0 single.1 in
    let spent = (past-spending results (Harmless runs) (omega arith)).0 equal.1 in
    let is : distinct (filter_map harmless results) ≡ runs = cc (spent.1) in (
      single.0,
      (none-is_all (difference results) results).0 equal.0,
      (none-is_all spending results).0 spent.0,
      subst (AreHarmlessRuns results) is (distinct-are_harmless results),
    )
