-- What is seen of two turns of a run is so, where they were chosen one after the other.
use Rattle.std.proofs.Common.{◌≡◌, ◌==◌, ℕ, ◌+◌, ◌-◌, ◌<◌, ◌≤◌, List, [], ◌∷◌, ◌++◌, count_by, drop, length, take, Some, None, refl, sym, ap, ◌∙◌, arith, eqb, cond, length-drop, length-take}
use Rattle.std.specs.Prelude.{slice_get}
use Rattle.std.proofs.lemmas.Bool.{eq-eqb}
use Rattle.std.proofs.lemmas.List.{length-map}
use Rattle.std.proofs.lemmas.List.Sums.{length-filter, sum_by-cons, sum_by_push}
use Rattle.std.proofs.lemmas.Option.{slice_get_past}
use Rattle.ir_types.specs.declared.«module».Module.{Module}
use Rattle.run_types.specs.declared.case.Case.{Case}
use Rattle.machine_model.specs.declared.state.State.{State}
use Rattle.machine_model.specs.Moment.{Moment}
use Rattle.machine_model.specs.Policy.{Policy}
use Rattle.concrete_machine.specs.declared.course.Course.{Course as Kept}
use Rattle.concrete_machine.specs.Course.{course_of}
use Rattle.race_top.specs.declared.trace_replay.seen.Due.{Due}
use Rattle.race_top.specs.CheckRace.{turns_of}
use Rattle.race_top.specs.Seen.{IsDue, after_due, moment_due, recorded_from, threads_of}
use Rattle.race_top.proofs.Moments.{drop-next, slice_get-drop, take-next}

-- where no more than the first of two is left, the second is past the end
pub second-past : {X : Type 0} (xs : List X) (first second : ℕ) → 0 < first → first < second →
    length (drop (first - 1) xs) ≤ 1 → slice_get xs (second - 1) ≡ None
second-past xs first second low above few =
    slice_get_past xs (second - 1) (omega (arith, length-drop (first - 1) xs))

-- the second among those after the first
pub second-after : {X : Type 0} (xs : List X) (first second : ℕ) (x : X) (rest : List X) → 0 < first → first < second →
    drop (first - 1) xs ≡ x ∷ rest → slice_get xs (second - 1) ≡ slice_get rest (second - first - 1)
second-after xs first second x rest low above is =
    let next = drop-next xs (first - 1) x rest is in
    let count : first - 1 + 1 ≡ first = omega arith in
    let place : first + (second - first - 1) ≡ second - 1 = omega arith in
    sym (ap (λ left. slice_get left (second - first - 1)) (sym next)
    ∙ ap (λ from. slice_get (drop from xs) (second - first - 1)) count
    ∙ slice_get-drop xs first (second - first - 1) ∙ ap (slice_get xs) place)

pub slice_get-empty : {X : Type 0} (xs : List X) (i : ℕ) → drop i xs ≡ [] → slice_get xs i ≡ None
slice_get-empty xs i is = slice_get_past xs i (omega (arith, length-drop i xs, ap length is))

turns_of-threads : {S : Type 0} (thread : ℕ) (moments : List (Moment S)) →
    count_by (λ moment. moment.thread == thread) moments ≡ count_by (λ turn. turn == thread) (threads_of moments)
turns_of-threads thread [] = refl
turns_of-threads thread (moment ∷ moments) =
    sum_by-cons (λ one. cond (eqb one.thread thread) 1 0) moment moments
    ∙ ap (λ rest. cond (eqb moment.thread thread) 1 0 + rest) (turns_of-threads thread moments)
    ∙ sym (sum_by-cons (λ turn. cond (eqb turn thread) 1 0) moment.thread (threads_of moments))

-- the turns of a moment's thread up to it are those before it and its own
pub turns_of-count : {S : Type 0} (moments : List (Moment S)) (place : ℕ) (moment : Moment S)
    (rest : List (Moment S)) (turns : List ℕ) →
    drop place moments ≡ moment ∷ rest → turns ≡ threads_of (take place moments) →
    turns_of moment.thread (take (place + 1) moments) ≡ count_by (λ turn. turn == moment.thread) turns + 1
turns_of-count moments place moment rest turns is taken =
    let thread = moment.thread in
    let own = eq-eqb thread thread refl in
    length-filter (λ one. one.thread == thread) (take (place + 1) moments)
    ∙ ap (count_by (λ one. one.thread == thread)) (take-next moments place moment rest is)
    ∙ sum_by_push (λ one. cond (eqb one.thread thread) 1 0) (take place moments) moment
    ∙ ap (λ same. count_by (λ one. one.thread == thread) (take place moments) + cond same 1 0) own
    ∙ ap (λ count. count + 1)
    (turns_of-threads thread (take place moments) ∙ ap (count_by (λ turn. turn == thread)) (sym taken))

-- where the run doesn't go on after the first turn it has no second
pub second-none : (code : Module) (case : Case) (moments : List (Moment State)) (most rest first second : ℕ)
    (due : Due) →
    0 < first → first < second → rest ≡ most - first →
    IsDue code case (most - (first - 1 + 1)) (Some due) (drop (first - 1) moments) →
    after_due code case rest due ≡ [] → slice_get moments (second - 1) ≡ None
second-none code case moments most rest first second due low above left is none =
    let same : most - (first - 1 + 1) ≡ rest = omega arith in
    let first_is = is.1 ∙ ap (λ few. moment_due is.0 due ∷ after_due code case few due) same
    ∙ ap (λ later. moment_due is.0 due ∷ later) none in
    second-past moments first second low above (rw first_is (omega arith))

-- where it goes on, the second turn is one of those after the first
pub second-of : (code : Module) (case : Case) (moments : List (Moment State)) (most rest first second : ℕ)
    (due : Due) (next : Kept) →
    0 < first → first < second → rest ≡ most - first →
    IsDue code case (most - (first - 1 + 1)) (Some due) (drop (first - 1) moments) →
    after_due code case rest due ≡ recorded_from code case rest (course_of next) →
    slice_get moments (second - 1) ≡ slice_get (recorded_from code case rest (course_of next)) (second - first - 1)
second-of code case moments most rest first second due next low above left is on =
    let same : most - (first - 1 + 1) ≡ rest = omega arith in
    second-after moments first second (moment_due is.0 due) (after_due code case (most - (first - 1 + 1)) due) low above is.1
    ∙ ap (λ few. slice_get (after_due code case few due) (second - first - 1)) same
    ∙ ap (λ later. slice_get later (second - first - 1)) on

-- the turns of the first thread, of which its turn is the last
pub first-count : (code : Module) (case : Case) (moments : List (Moment State)) (most first : ℕ) (due : Due)
    (policy : Policy) (count : ℕ) →
    0 < first → drop (first - 1) moments ≡ moment_due policy due ∷ after_due code case most due →
    due.course.turns.items ≡ threads_of (take (first - 1) moments) →
    count ≡ count_by (λ turn. turn == due.thread) due.course.turns.items →
    turns_of due.thread (take first moments) ≡ count + 1
first-count code case moments most first due policy count low is taken counted =
    let place : first ≡ first - 1 + 1 = omega arith in
    ap (λ number. turns_of due.thread (take number moments)) place
    ∙ turns_of-count moments (first - 1) (moment_due policy due) (after_due code case most due) due.course.turns.items is taken
    ∙ ap (λ number. number + 1) (sym counted)

-- from the start on, the turns are those of the moments, and no more
pub from-start : (start turns taken : List ℕ) → start ≡ [] → turns ≡ start ++ taken → turns ≡ taken
from-start start turns taken none is = is ∙ ap (λ front. front ++ taken) none

pub few-threads : {S : Type 0} (start turns : List ℕ) (most : ℕ) (moments : List (Moment S)) → start ≡ [] →
    turns ≡ start ++ threads_of (take most moments) → length turns ≤ most
few-threads start turns most moments none is =
    omega (
      arith,
      ap length (from-start start turns (threads_of (take most moments)) none is),
      length-map (take most moments) (λ moment. moment.thread),
      length-take most moments,
    )
