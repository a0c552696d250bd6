-- The first maximal run of some turns.
use Rattle.std.proofs.Common.{◌==◌, ◌-◌, Some, take, slice_get, ◌≡◌, ℕ, suc, ◌+◌, Bool, true, false, cond, eqb, List, [], ◌∷◌, length, drop, refl, sym, ap, ◌∙◌, arith}
use Rattle.std.proofs.lemmas.Bool.{eq-eqb, eqb-true}
use Rattle.std.proofs.lemmas.List.{take_rest}
use Rattle.std.specs.List.{prefix_len}
use Rattle.text_lines.specs.ThreadRun.{onto_runs, run_of, thread_runs}
use Rattle.text_lines.specs.declared.thread_run.ThreadRun.{ThreadRun}

abbrev is_of : ℕ → ℕ → Bool
is_of thread turn = eqb turn thread

-- how many turns at the front are of the thread
abbrev front_len : ℕ → List ℕ → ℕ
front_len thread turns = prefix_len (is_of thread) turns

-- a run of so many of the turns, and the runs after them
abbrev front : ℕ → List ℕ → ℕ → List ThreadRun
front thread turns count = run_of thread count ∷ thread_runs (drop count turns)

drop-one_more : (count turn : ℕ) (turns : List ℕ) → drop (1 + count) (turn ∷ turns) ≡ drop count turns
drop-one_more count turn turns =
    ap (λ places. drop places (turn ∷ turns)) {x = 1 + count} {y = suc count} (omega arith)

by_test : (thread next : ℕ) (turns : List ℕ) (same : Bool) → eqb next thread ≡ same →
    thread_runs (next ∷ turns) ≡ front next (next ∷ turns) (1 + front_len next turns) →
    cond same
    (run_of thread (1 + front_len next turns + 1) ∷ thread_runs (drop (1 + front_len next turns) (next ∷ turns)))
    (run_of thread 1 ∷ front next (next ∷ turns) (1 + front_len next turns))
    ≡ front thread (thread ∷ next ∷ turns) (1 + cond same (1 + front_len thread turns) 0)
by_test thread next turns true test rest =
    let lens : front_len next turns ≡ front_len thread turns =
    ap (λ turn. front_len turn turns) (eqb-true next thread test) in
    let counts : 1 + front_len next turns + 1 ≡ 1 + (1 + front_len thread turns) = omega arith in
    let later : drop (1 + front_len next turns) (next ∷ turns) ≡ drop (1 + (1 + front_len thread turns)) (thread ∷ next ∷ turns) =
    ap (λ count. drop (1 + count) (next ∷ turns)) lens
    ∙ sym (drop-one_more (1 + front_len thread turns) thread (next ∷ turns)) in
    λ i. run_of thread (counts i) ∷ thread_runs (later i)
by_test thread next turns false test rest = ap (λ runs. run_of thread 1 ∷ runs) (sym rest)

runs-cons : (thread : ℕ) (turns : List ℕ) →
    thread_runs (thread ∷ turns) ≡ front thread (thread ∷ turns) (1 + front_len thread turns)
unfolding thread_runs
runs-cons thread [] = refl
runs-cons thread (next ∷ turns) =
    ap (onto_runs thread) (runs-cons next turns)
    ∙ by_test thread next turns (eqb next thread) refl (runs-cons next turns)

front_len-cons : (thread : ℕ) (turns : List ℕ) → front_len thread (thread ∷ turns) ≡ 1 + front_len thread turns
front_len-cons thread turns = ap (λ same. cond same (1 + front_len thread turns) 0) (eq-eqb thread thread refl)

-- the turns are their first run, and the runs of the turns after it
pub front_run : (turns : List ℕ) (thread count : ℕ) →
    slice_get turns 0 ≡ Some thread → count ≡ prefix_len (λ turn. turn == thread) turns →
    thread_runs turns ≡ run_of thread count ∷ thread_runs (take (length turns - count) (drop count turns))
front_run [] thread count is counted = absurd (let h : ⊥ = cc in h)
front_run (first ∷ others) thread count is counted =
    let turns = first ∷ others in
    let same : first ≡ thread = cc in
    let whole : 1 + front_len first others ≡ count =
    sym (front_len-cons first others) ∙ ap (λ turn. front_len turn turns) same ∙ sym counted in
    let later : drop (1 + front_len first others) turns ≡ take (length turns - count) (drop count turns) =
    ap (λ places. drop places turns) whole ∙ sym (take_rest turns count) in
    runs-cons first others ∙ (λ i. run_of (same i) (whole i) ∷ thread_runs (later i))
