-- What is taken where a list of turns is followed.
use Rattle.std.proofs.Common.{◌≡◌, ℕ, zero, suc, ◌+◌, ◌<◌, Bool, true, false, cond, eqb, ltb, List, ◌∷◌, [], length, get_or, drop, Option, Some, None, refl, sym, ap, subst, ◌∙◌, add-one, add-zero, arith}
use Rattle.std.specs.Prelude.{Contains, ◌||◌, find, position, slice_get, unwrap_or, MatchOption}
use Rattle.std.specs.List.{position_or_len}
use Rattle.std.proofs.Math.Bool.{or-true}
use Rattle.std.proofs.lemmas.Bool.{eq-eqb, eqb-true, lt-ltb, ltb-true, false≢true}
use Rattle.std.proofs.lemmas.List.{get_or-drop, length-drop}
use Rattle.std.proofs.lemmas.List.Sums.{passes_at_first}
use Rattle.std.proofs.lemmas.Option.{get_or_from_slice_get, slice_get_within}
use Rattle.machine_model.specs.Follow.{Follow, Followed, follow_turns, is_above, is_among, taken}

-- an element of the rest is one of the whole
pub Contains-later : (first : ℕ) (others : List ℕ) (thread : ℕ) → Contains others thread → Contains (first ∷ others) thread
Contains-later first others thread found = (found.0 + 1, omega (arith, found.1), rw add-one found.2)

among-cases : (first : ℕ) (others : List ℕ) (thread : ℕ) (same : Bool) → eqb first thread ≡ same →
    (same || is_among others thread) ≡ true → (is_among others thread ≡ true → Contains others thread) →
    Contains (first ∷ others) thread
among-cases first others thread true same found rest = (0, omega arith, eqb-true first thread same)
among-cases first others thread false same found rest = Contains-later first others thread (rest found)

-- a thread that is found among others is one of them
pub Contains-from_among : (threads : List ℕ) (thread : ℕ) → is_among threads thread ≡ true → Contains threads thread
Contains-from_among [] thread found = absurd (false≢true found)
Contains-from_among (first ∷ others) thread found =
    among-cases first others thread (eqb first thread) refl found (Contains-from_among others thread)

Contains-find : (test : ℕ → Bool) (threads : List ℕ) → MatchOption (find test threads) (Unit {0}) (Contains threads)
Contains-find test [] = tt
Contains-find test (first ∷ others) = go (test first) (find test others) (Contains-find test others)
  where
    go : (b : Bool) (rest : Option ℕ) → MatchOption rest (Unit {0}) (Contains others) →
        MatchOption (cond b (Some first) rest) (Unit {0}) (Contains (first ∷ others))
    go true rest found = (0, omega arith, refl)
    go false None found = tt
    go false (Some thread) found = Contains-later first others thread found

Contains-unwrap : (first : ℕ) (others : List ℕ) (found : Option ℕ) →
    MatchOption found (Unit {0}) (Contains (first ∷ others)) → Contains (first ∷ others) (unwrap_or found first)
Contains-unwrap first others None is = (0, omega arith, refl)
Contains-unwrap first others (Some thread) is = is

-- a place that `position` finds passes the test
position-passes : (test : ℕ → Bool) (threads : List ℕ) (place : ℕ) → position test threads ≡ Some place →
    test (get_or threads place 0) ≡ true
position-passes test threads place found =
    go (ltb (position_or_len test threads) (length threads)) refl found
  where
    go : (b : Bool) → ltb (position_or_len test threads) (length threads) ≡ b →
        cond b (Some (position_or_len test threads)) None ≡ Some place → test (get_or threads place 0) ≡ true
    go true e found =
        let at : position_or_len test threads ≡ place = cc in
        rw at at (passes_at_first test threads 0 (ltb-true _ _ e))
    go false e found = absurd (let h : ⊥ = cc in h)

taken-enabled : (listed : List ℕ) (follow : Follow) (first : ℕ) (others : List ℕ) (found : Option ℕ) →
    position (is_among (first ∷ others)) (drop follow.position listed) ≡ found →
    Contains (first ∷ others) (taken listed follow first others found).thread
taken-enabled listed follow first others None e =
    Contains-unwrap first others (find (is_above follow.last) (first ∷ others)) (Contains-find (is_above follow.last) (first ∷ others))
taken-enabled listed follow first others (Some entry) e =
    Contains-from_among (first ∷ others) (get_or listed (follow.position + entry) 0)
    (let Found : ℕ → Type 0 = λ thread. is_among (first ∷ others) thread ≡ true in
    subst Found (get_or-drop follow.position listed entry 0)
    (position-passes (is_among (first ∷ others)) (drop follow.position listed) entry e))

pub follow_turns-enabled : (listed : List ℕ) (follow : Follow) (enabled : List ℕ) (followed : Followed) →
    follow_turns listed follow enabled ≡ Some followed → Contains enabled followed.thread
unfolding follow_turns
follow_turns-enabled listed follow [] followed e = absurd (let h : ⊥ = cc in h)
follow_turns-enabled listed follow (first ∷ others) followed e =
    let found = position (is_among (first ∷ others)) (drop follow.position listed) in
    let same : taken listed follow first others found ≡ followed = cc in
    rw (← same) (taken-enabled listed follow first others found refl)

pub follow_turns-some : (listed : List ℕ) (follow : Follow) (enabled : List ℕ) →
    follow_turns listed follow enabled ≡ None → enabled ≡ []
unfolding follow_turns
follow_turns-some listed follow [] e = refl
follow_turns-some listed follow (first ∷ others) e = absurd (let h : ⊥ = cc in h)

pub among-from_place : (threads : List ℕ) (thread place : ℕ) → place < length threads → get_or threads place thread ≡ thread →
    is_among threads thread ≡ true
among-from_place [] thread place within is = absurd (omega arith)
among-from_place (first ∷ others) thread zero within is =
    rw (eq-eqb first thread is) refl
among-from_place (first ∷ others) thread (suc place) within is =
    rw (among-from_place others thread place (omega arith) is) (or-true (eqb first thread))

-- the first place of a list whose first element passes
position-first : (test : ℕ → Bool) (threads : List ℕ) → 0 < length threads → test (get_or threads 0 0) ≡ true →
    position test threads ≡ Some 0
position-first test [] within passes = absurd (omega arith)
position-first test (first ∷ others) within passes =
    rw passes (rw (lt-ltb 0 (suc (length others)) (omega arith)) refl)

pub follow_turns-listed : (listed : List ℕ) (follow : Follow) (enabled : List ℕ) (followed : Followed) (entry : ℕ) →
    slice_get listed follow.position ≡ Some entry → Contains enabled entry →
    follow_turns listed follow enabled ≡ Some followed →
    (followed.thread ≡ entry) × (followed.next.position ≡ follow.position + 1)
unfolding follow_turns
follow_turns-listed listed follow [] followed entry next among e = absurd (let h : ⊥ = cc in h)
follow_turns-listed listed follow (first ∷ others) followed entry next among e =
    let within : follow.position < length listed = slice_get_within listed follow.position entry next in
    let rest = drop follow.position listed in
    let long : 0 < length rest = omega (arith, length-drop follow.position listed) in
    let is : get_or rest 0 0 ≡ entry =
    get_or-drop follow.position listed 0 0 ∙ rw add-zero (get_or_from_slice_get listed follow.position entry 0 next) in
    let passes : is_among (first ∷ others) (get_or rest 0 0) ≡ true =
    let Found : ℕ → Type 0 = λ thread. is_among (first ∷ others) thread ≡ true in
    subst Found (sym is) (among-from_place (first ∷ others) entry among.0 among.1 among.2) in
    let found = position-first (is_among (first ∷ others)) rest long passes in
    let same : taken listed follow first others (Some 0) ≡ followed =
    sym (ap (taken listed follow first others) found) ∙ (let h : taken listed follow first others (position (is_among (first ∷ others)) rest) ≡ followed = cc in h) in
    rw (← same) (rw add-zero (get_or_from_slice_get listed follow.position entry 0 next), omega arith)

-- what is taken is the thread chosen last
taken-last : (listed : List ℕ) (follow : Follow) (first : ℕ) (others : List ℕ) (found : Option ℕ) →
    let followed = taken listed follow first others found in followed.next.last ≡ Some followed.thread
taken-last listed follow first others None = refl
taken-last listed follow first others (Some entry) = refl

pub follow_turns-last : (listed : List ℕ) (follow : Follow) (enabled : List ℕ) (followed : Followed) →
    follow_turns listed follow enabled ≡ Some followed → followed.next.last ≡ Some followed.thread
unfolding follow_turns
follow_turns-last listed follow [] followed e = absurd (let h : ⊥ = cc in h)
follow_turns-last listed follow (first ∷ others) followed e =
    let found = position (is_among (first ∷ others)) (drop follow.position listed) in
    let same : taken listed follow first others found ≡ followed = cc in
    rw (← same) (taken-last listed follow first others found)
