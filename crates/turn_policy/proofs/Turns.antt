-- The threads that may be followed, where one of them may be held.
use Rattle.std.proofs.Common.{◌≡◌, ℕ, Bool, true, false, cond, eqb, List, ◌∷◌, [], Option, Some, None, refl, ap}
use Rattle.std.specs.Prelude.{◌&&◌, not, filter, find}
use Rattle.std.proofs.lemmas.Bool.{eqb-true}
use Rattle.std.proofs.lemmas.Map.Views.{any-filter_same}
use Rattle.machine_model.specs.Follow.{is_among}
use Rattle.turn_policy.specs.Policy.{free_threads, is_held}

pub among-free : (held : Option ℕ) (threads : List ℕ) (thread : ℕ) →
    is_among (free_threads held threads) thread ≡ (not (is_held held thread) && is_among threads thread)
among-free None threads thread = refl
among-free (Some held) threads thread =
    any-filter_same (λ other. eqb other thread) (λ other. not (eqb other held)) (not (eqb thread held))
    (λ other same. ap (λ which. not (eqb which held)) (eqb-true other thread same)) threads

find-filter : (keep test : ℕ → Bool) (threads : List ℕ) →
    find test (filter keep threads) ≡ find (λ thread. keep thread && test thread) threads
find-filter keep test [] = refl
find-filter keep test (first ∷ others) = go (keep first) (find-filter keep test others)
  where
    go : (b : Bool) → find test (filter keep others) ≡ find (λ thread. keep thread && test thread) others →
        find test (cond b (first ∷ filter keep others) (filter keep others))
        ≡ cond (b && test first) (Some first) (find (λ thread. keep thread && test thread) others)
    go true rest = ap (cond (test first) (Some first)) rest
    go false rest = rest

pub find-free : (held : Option ℕ) (test : ℕ → Bool) (threads : List ℕ) →
    find test (free_threads held threads) ≡ find (λ thread. not (is_held held thread) && test thread) threads
find-free None test threads = refl
find-free (Some held) test threads = find-filter (λ thread. not (eqb thread held)) test threads
