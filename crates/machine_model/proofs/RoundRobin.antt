-- Where a list of turns has none to take, threads that rise take turns by their numbers.
use Rattle.std.proofs.Common.{◌≡◌, ℕ, zero, suc, ◌+◌, ◌<◌, ◌≤◌, Bool, true, false, cond, List, ◌∷◌, [], get_or, drop, Option, Some, None, refl, sym, subst, ◌∙◌, arith, inl, inr}
use Rattle.std.specs.Prelude.{All, Contains, find, position, unwrap_or}
use Rattle.std.specs.List.Sorted.{IsStrictlyIncreasing}
use Rattle.std.proofs.lemmas.Bool.{lt-ltb, ltb-true, false≢true}
use Rattle.std.proofs.lemmas.List.Kept.{AllPairs-from_increasing}
use Rattle.std.proofs.lemmas.List.Quantifiers.{position-Some}
use Rattle.machine_model.specs.Follow.{Follow, Followed, follow_turns, is_above, is_among, next_above, taken}
use Rattle.machine_model.specs.PolicyLaws.{IsAbove, IsNext}
use Rattle.machine_model.proofs.Choices.{Contains-from_among}

above-from_test : (last : Option ℕ) (thread : ℕ) → is_above last thread ≡ true → IsAbove last thread
above-from_test None thread is = tt
above-from_test (Some last) thread is = ltb-true last thread is

test-from_above : (last : Option ℕ) (thread : ℕ) → IsAbove last thread → is_above last thread ≡ true
test-from_above None thread above = refl
test-from_above (Some last) thread above = lt-ltb last thread above

-- the first of threads that rise is the least
first-least : (first : ℕ) (others : List ℕ) → IsStrictlyIncreasing (first ∷ others) →
    (other : ℕ) → Contains (first ∷ others) other → first ≤ other
first-least first others rise other (zero, within, is) = omega arith
first-least first others rise other (suc place, within, is) =
    let above : first < get_or others place other =
    AllPairs-from_increasing (first ∷ others) rise 0 (suc place) other (omega arith) within in
    omega arith

rise-later : (first : ℕ) (others : List ℕ) → IsStrictlyIncreasing (first ∷ others) → IsStrictlyIncreasing others
rise-later first others rise place within =
    let more : suc place + 1 ≡ suc (place + 1) = omega arith in
    subst (λ next. get_or others place 0 < get_or (first ∷ others) next 0) more (rise (suc place) (omega arith))

-- what is found among threads that rise is the least of those above
abbrev Finds : Option ℕ → List ℕ → Option ℕ → Type 0
Finds last threads None = (other : ℕ) → Contains threads other → ¬ IsAbove last other
Finds last threads (Some thread) =
    IsAbove last thread × ((other : ℕ) → Contains threads other → IsAbove last other → thread ≤ other)

finds-least : (last : Option ℕ) (threads : List ℕ) → IsStrictlyIncreasing threads →
    Finds last threads (find (is_above last) threads)
finds-least last [] rise = λ other among above. absurd (omega (arith, among.1))
finds-least last (first ∷ others) rise =
    go (is_above last first) refl (find (is_above last) others) (finds-least last others (rise-later first others rise))
  where
    below : is_above last first ≡ false → IsAbove last first → ⊥
    below is above = false≢true (sym is ∙ test-from_above last first above)

    go : (b : Bool) → is_above last first ≡ b → (rest : Option ℕ) → Finds last others rest →
        Finds last (first ∷ others) (cond b (Some first) rest)
    go true is rest finds =
        (above-from_test last first is, λ other among above. first-least first others rise other among)
    go false is None finds = λ other among above. none among above
      where
        none : {other : ℕ} → Contains (first ∷ others) other → IsAbove last other → ⊥
        none {other} (zero, within, at) above = below is (subst (IsAbove last) (sym at) above)
        none {other} (suc place, within, at) above = finds other (place, omega arith, at) above
    go false is (Some thread) finds = (finds.0, λ other among above. least among above)
      where
        least : {other : ℕ} → Contains (first ∷ others) other → IsAbove last other → thread ≤ other
        least {other} (zero, within, at) above = absurd (below is (subst (IsAbove last) (sym at) above))
        least {other} (suc place, within, at) above = finds.1 other (place, omega arith, at) above

next_above-next : (last : Option ℕ) (first : ℕ) (others : List ℕ) → IsStrictlyIncreasing (first ∷ others) →
    IsNext last (first ∷ others) (next_above last first others)
next_above-next last first others rise =
    go (find (is_above last) (first ∷ others)) (finds-least last (first ∷ others) rise)
  where
    go : (found : Option ℕ) → Finds last (first ∷ others) found →
        IsNext last (first ∷ others) (unwrap_or found first)
    go None finds = inr (finds, first-least first others rise)
    go (Some thread) finds = inl finds

taken-next : (listed : List ℕ) (follow : Follow) (first : ℕ) (others : List ℕ) →
    IsStrictlyIncreasing (first ∷ others) →
    All (λ entry. ¬ Contains (first ∷ others) entry) (drop follow.position listed) → (found : Option ℕ) →
    position (is_among (first ∷ others)) (drop follow.position listed) ≡ found →
    IsNext follow.last (first ∷ others) (taken listed follow first others found).thread
taken-next listed follow first others rise none None e = next_above-next follow.last first others rise
taken-next listed follow first others rise none (Some entry) e =
    let rest = drop follow.position listed in
    let found = position-Some (is_among (first ∷ others)) rest entry 0 e in
    absurd (none entry 0 found.0 (Contains-from_among (first ∷ others) (get_or rest entry 0) found.1))

pub follow_turns-next : (listed : List ℕ) (follow : Follow) (enabled : List ℕ) (followed : Followed) →
    IsStrictlyIncreasing enabled → All (λ entry. ¬ Contains enabled entry) (drop follow.position listed) →
    follow_turns listed follow enabled ≡ Some followed → IsNext follow.last enabled followed.thread
unfolding follow_turns
follow_turns-next listed follow [] followed rise none e = absurd (let h : ⊥ = cc in h)
follow_turns-next listed follow (first ∷ others) followed rise none e =
    let found = position (is_among (first ∷ others)) (drop follow.position listed) in
    let same : taken listed follow first others found ≡ followed = cc in
    rw (← same) (taken-next listed follow first others rise none found refl)
