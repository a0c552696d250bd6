-- The runs of some turns are the only longest ones that stand for them.
use Rattle.std.proofs.Common.{◌≡◌, ℕ, Some, None, zero, suc, ◌+◌, ◌<◌, Bool, true, false, cond, eqb, List, [], ◌∷◌, ◌++◌, replicate, refl, sym, ap, subst, ◌∙◌, add-one, arith}
use Rattle.std.proofs.lemmas.Bool.{eq-eqb, eqb-true, ne_eqb, eqb-false}
use Rattle.text_lines.specs.declared.thread_run.ThreadRun.{ThreadRun}
use Rattle.text_lines.specs.ThreadRun.{AreLongest, BeginsWithOther, expanded, onto_runs, run_of, shortest, thread_runs, turns_of}
use Rattle.text_lines.specs.RunWord.{run_turns, run_word}

-- a turn before some runs, by whether the first of them is of the same thread
abbrev joined : ℕ → ThreadRun → List ThreadRun → Bool → List ThreadRun
joined thread run runs same = cond same (run_of thread (run.count + 1) ∷ runs) (run_of thread 1 ∷ run ∷ runs)

expanded-joined : (thread : ℕ) (run : ThreadRun) (runs : List ThreadRun) (same : Bool) →
    eqb run.thread thread ≡ same → expanded (joined thread run runs same) ≡ thread ∷ expanded (run ∷ runs)
expanded-joined thread run runs true test =
    let same : run.thread ≡ thread = eqb-true run.thread thread test in
    ap (λ count. replicate count thread ++ expanded runs) (add-one run.count)
    ∙ ap (λ turn. thread ∷ (replicate run.count turn ++ expanded runs)) (sym same)
expanded-joined thread run runs false test = refl

expanded-onto_runs : (thread : ℕ) (runs : List ThreadRun) → expanded (onto_runs thread runs) ≡ thread ∷ expanded runs
expanded-onto_runs thread [] = refl
expanded-onto_runs thread (run ∷ runs) = expanded-joined thread run runs (eqb run.thread thread) refl

pub expanded-thread_runs : (turns : List ℕ) → expanded (thread_runs turns) ≡ turns
unfolding thread_runs
expanded-thread_runs [] = refl
expanded-thread_runs (thread ∷ turns) =
    expanded-onto_runs thread (thread_runs turns) ∙ ap (λ rest. thread ∷ rest) (expanded-thread_runs turns)

other_thread : (thread turn : ℕ) (runs : List ThreadRun) → turn ≡ thread →
    BeginsWithOther turn runs → BeginsWithOther thread runs
other_thread thread turn [] same other = tt
other_thread thread turn (run ∷ runs) same other = λ is. other (is ∙ sym same)

longest-joined : (thread : ℕ) (run : ThreadRun) (runs : List ThreadRun) (same : Bool) →
    eqb run.thread thread ≡ same → AreLongest (run ∷ runs) → AreLongest (joined thread run runs same)
longest-joined thread run runs true test longest =
    (omega arith, other_thread thread run.thread runs (eqb-true run.thread thread test) longest.1, longest.2)
longest-joined thread run runs false test longest = (omega arith, eqb-false run.thread thread test, longest)

longest-onto_runs : (thread : ℕ) (runs : List ThreadRun) → AreLongest runs → AreLongest (onto_runs thread runs)
longest-onto_runs thread [] longest = (omega arith, tt, tt)
longest-onto_runs thread (run ∷ runs) longest = longest-joined thread run runs (eqb run.thread thread) refl longest

pub AreLongest-thread_runs : (turns : List ℕ) → AreLongest (thread_runs turns)
unfolding thread_runs
AreLongest-thread_runs [] = tt
AreLongest-thread_runs (thread ∷ turns) = longest-onto_runs thread (thread_runs turns) (AreLongest-thread_runs turns)

-- a turn of another thread begins a run
onto_runs-other : (thread : ℕ) (runs : List ThreadRun) → BeginsWithOther thread runs →
    onto_runs thread runs ≡ run_of thread 1 ∷ runs
onto_runs-other thread [] other = refl
onto_runs-other thread (run ∷ runs) other = ap (joined thread run runs) (ne_eqb run.thread thread other)

onto_runs-same : (thread count : ℕ) (runs : List ThreadRun) →
    onto_runs thread (run_of thread count ∷ runs) ≡ run_of thread (count + 1) ∷ runs
onto_runs-same thread count runs = ap (joined thread (run_of thread count) runs) (eq-eqb thread thread refl)

thread_runs-replicate : (thread more : ℕ) (turns : List ℕ) → BeginsWithOther thread (thread_runs turns) →
    thread_runs (replicate (suc more) thread ++ turns) ≡ run_of thread (suc more) ∷ thread_runs turns
unfolding thread_runs
thread_runs-replicate thread zero turns other = onto_runs-other thread (thread_runs turns) other
thread_runs-replicate thread (suc more) turns other =
    ap (onto_runs thread) (thread_runs-replicate thread more turns other)
    ∙ onto_runs-same thread (suc more) (thread_runs turns)
    ∙ ap (λ count. run_of thread count ∷ thread_runs turns) (add-one (suc more))

thread_runs-front : (thread count : ℕ) (runs : List ThreadRun) (turns : List ℕ) →
    0 < count → BeginsWithOther thread runs →
    thread_runs turns ≡ runs → thread_runs (replicate count thread ++ turns) ≡ run_of thread count ∷ runs
thread_runs-front thread zero runs turns some other is = absurd (omega arith)
thread_runs-front thread (suc more) runs turns some other is =
    thread_runs-replicate thread more turns (subst (BeginsWithOther thread) (sym is) other)
    ∙ ap (λ runs. run_of thread (suc more) ∷ runs) is

pub thread_runs-expanded : (runs : List ThreadRun) → AreLongest runs → thread_runs (expanded runs) ≡ runs
unfolding thread_runs
thread_runs-expanded [] longest = refl
thread_runs-expanded (run ∷ runs) longest =
    thread_runs-front run.thread run.count runs (expanded runs) longest.0 longest.1
    (thread_runs-expanded runs longest.2)

by_one : (one : Bool) (thread count : ℕ) → eqb count 1 ≡ one → run_turns (run_word thread (cond one None (Some count))) ≡ replicate count thread
by_one true thread count is = ap (λ n. replicate n thread) (sym (eqb-true count 1 is))
by_one false thread count is = refl

pub shortest_stands : (run : ThreadRun) → run_turns (shortest run) ≡ turns_of run
shortest_stands run = by_one (eqb run.count 1) run.thread run.count refl

pub ruleset longest_laws = (expanded-thread_runs, shortest_stands, AreLongest-thread_runs, thread_runs-expanded)
