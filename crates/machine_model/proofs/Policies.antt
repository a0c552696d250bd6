-- What the chooser picks, in each of its modes.
use Rattle.std.proofs.Common.{◌≡◌, ◌≢◌, ℕ, zero, suc, ◌+◌, Bool, true, false, cond, eqb, not, List, ◌∷◌, [], get_or, Option, Some, None, refl, sym, ap, ◌∙◌, arith}
use Rattle.std.specs.Prelude.{Contains, option_map, slice_get}
use Rattle.std.proofs.lemmas.Bool.{eq-eqb, ne_eqb, true≢false}
use Rattle.std.proofs.lemmas.List.{get_or_default}
use Rattle.std.proofs.lemmas.List.Elements.{All-contains, All-contains_itself, All-filter, filter_passes}
use Rattle.machine_model.specs.declared.mode.Mode.{Mode}
use Rattle.machine_model.specs.declared.mode.Mode.TheVariants.{Before, Hold, After}
use Rattle.machine_model.specs.Follow.{Follow, Followed, follow_turns, is_among}
use Rattle.machine_model.specs.Policy.{Choice, choose, choose_in, followed_in, released, without_thread}
use Rattle.machine_model.specs.PolicyLaws.{ChoiceIsEnabled, ChoiceIsLast, ChoosesUnlessNone, ListedIsChosen, MayChoose, ReleaseKeepsPlace, TakesTurns, mode_after}
use Rattle.machine_model.proofs.Choices.{Contains-from_among, Contains-later, among-from_place, follow_turns-enabled, follow_turns-last, follow_turns-listed, follow_turns-some}
use Rattle.machine_model.proofs.RoundRobin.{follow_turns-next}

-- the threads without one: those of the threads that are another
Contains-from_without : (held : ℕ) (threads : List ℕ) (thread : ℕ) → Contains (without_thread held threads) thread →
    Contains threads thread × (thread ≢ held)
Contains-from_without held threads thread among =
    let other : ℕ → Bool = λ thread. not (eqb thread held) in (
      All-contains (Contains threads) (without_thread held threads) thread
          (All-filter other (Contains threads) threads (All-contains_itself threads)) among,
      λ is. let passes = All-contains (λ thread. other thread ≡ true) (without_thread held threads) thread
          (filter_passes other threads) among in
          true≢false (sym passes ∙ ap not (eq-eqb thread held is)),
    )

Contains-without : (held : ℕ) (threads : List ℕ) (thread : ℕ) → Contains threads thread → thread ≢ held →
    Contains (without_thread held threads) thread
Contains-without held [] thread among differs = absurd (omega (arith, among.1))
Contains-without held (first ∷ others) thread (zero, within, is) differs =
    rw (ne_eqb first held (λ same. differs (sym is ∙ same))) (0, omega arith, is)
Contains-without held (first ∷ others) thread (suc place, within, is) differs =
    go (eqb first held) (Contains-without held others thread (place, omega arith, is) differs)
  where
    go : (same : Bool) → Contains (without_thread held others) thread →
        Contains (cond (not same) (first ∷ without_thread held others) (without_thread held others)) thread
    go true later = later
    go false later = Contains-later first (without_thread held others) thread later

-- what was chosen in a mode was taken
record IsTaken (listed : List ℕ) (follow : Follow) (threads : List ℕ) (mode : Mode) (choice : Choice) : Type 0 where
  followed : Followed
  taken : follow_turns listed follow threads ≡ Some followed
  is : followed_in mode followed ≡ choice

IsTaken-from_choice : (listed : List ℕ) (follow : Follow) (threads : List ℕ) (mode : Mode) (choice : Choice) →
    option_map (followed_in mode) (follow_turns listed follow threads) ≡ Some choice →
    IsTaken listed follow threads mode choice
IsTaken-from_choice listed follow threads mode choice e = go (follow_turns listed follow threads) refl e
  where
    go : (found : Option Followed) → follow_turns listed follow threads ≡ found →
        option_map (followed_in mode) found ≡ Some choice → IsTaken listed follow threads mode choice
    go None taken e = absurd (let h : ⊥ = cc in h)
    go (Some followed) taken e = record { followed = followed; taken = taken; is = cc }

-- nothing is chosen in a mode where there is nothing to take
nothing-taken : (listed : List ℕ) (follow : Follow) (threads : List ℕ) (mode : Mode) (thread : ℕ) →
    option_map (followed_in mode) (follow_turns listed follow threads) ≡ None → ¬ Contains threads thread
nothing-taken listed follow threads mode thread e among = go (follow_turns listed follow threads) refl e
  where
    go : (found : Option Followed) → follow_turns listed follow threads ≡ found →
        option_map (followed_in mode) found ≡ None → ⊥
    go None taken e =
        let none = follow_turns-some listed follow threads taken in
        let within = rw none at among.1 in omega arith
    go (Some followed) taken e = let h : ⊥ = cc in h

taken-enabled : (listed : List ℕ) (follow : Follow) (threads : List ℕ) (mode : Mode) (choice : Choice) →
    option_map (followed_in mode) (follow_turns listed follow threads) ≡ Some choice → Contains threads choice.thread
taken-enabled listed follow threads mode choice e =
    let is = IsTaken-from_choice listed follow threads mode choice e in
    rw (← is.is) (follow_turns-enabled listed follow threads is.followed is.taken)

-- what is chosen of the thread that was held
released-choice : (thread : ℕ) (follow : Follow) (enabled : List ℕ) (choice : Choice) →
    cond (is_among enabled thread) (Some (released thread follow)) None ≡ Some choice →
    (is_among enabled thread ≡ true) × (released thread follow ≡ choice)
released-choice thread follow enabled choice = go (is_among enabled thread)
  where
    go : (among : Bool) → cond among (Some (released thread follow)) None ≡ Some choice →
        (among ≡ true) × (released thread follow ≡ choice)
    go true e = (refl, cc)
    go false e = absurd (let h : ⊥ = cc in h)

chosen-enabled : (listed : List ℕ) (mode : Mode) (follow : Follow) (enabled : List ℕ) (choice : Choice) →
    choose_in mode listed follow enabled ≡ Some choice → Contains enabled choice.thread × MayChoose mode choice.thread
chosen-enabled listed Before follow enabled choice e = (taken-enabled listed follow enabled Before choice e, tt)
chosen-enabled listed (Hold held) follow enabled choice e =
    Contains-from_without held enabled choice.thread
    (taken-enabled listed follow (without_thread held enabled) (Hold held) choice e)
chosen-enabled listed (After held false) follow enabled choice e =
    let is = released-choice held follow enabled choice e in
    rw (← is.1) (Contains-from_among enabled held is.0, refl)
chosen-enabled listed (After held true) follow enabled choice e =
    (taken-enabled listed follow enabled (After held true) choice e, tt)

pub choice-enabled : ChoiceIsEnabled
unfolding choose
choice-enabled listed policy enabled choice e = chosen-enabled listed policy.mode policy.follow enabled choice e

chosen-unless_none : (listed : List ℕ) (mode : Mode) (follow : Follow) (enabled : List ℕ) (thread : ℕ) →
    choose_in mode listed follow enabled ≡ None → Contains enabled thread → ¬ MayChoose mode thread
chosen-unless_none listed Before follow enabled thread e among may =
    nothing-taken listed follow enabled Before thread e among
chosen-unless_none listed (Hold held) follow enabled thread e among may =
    nothing-taken listed follow (without_thread held enabled) (Hold held) thread e
    (Contains-without held enabled thread among may)
chosen-unless_none listed (After held false) follow enabled thread e among may =
    let is : get_or enabled among.0 held ≡ held = get_or_default enabled among.0 held thread among.1 ∙ among.2 ∙ may in
    let due = among-from_place enabled held among.0 among.1 is in
    let h : ⊥ = cc (rw due at e) in h
chosen-unless_none listed (After held true) follow enabled thread e among may =
    nothing-taken listed follow enabled (After held true) thread e among

pub choice-unless_none : ChoosesUnlessNone
unfolding choose
choice-unless_none listed policy enabled thread e = chosen-unless_none listed policy.mode policy.follow enabled thread e

taken-is_last : (listed : List ℕ) (follow : Follow) (threads : List ℕ) (mode : Mode) (choice : Choice) →
    option_map (followed_in mode) (follow_turns listed follow threads) ≡ Some choice →
    (choice.next.follow.last ≡ Some choice.thread) × (choice.next.mode ≡ mode)
taken-is_last listed follow threads mode choice e =
    let is = IsTaken-from_choice listed follow threads mode choice e in
    rw (← is.is) (follow_turns-last listed follow threads is.followed is.taken, refl)

chosen-is_last : (listed : List ℕ) (mode : Mode) (follow : Follow) (enabled : List ℕ) (choice : Choice) →
    choose_in mode listed follow enabled ≡ Some choice →
    (choice.next.follow.last ≡ Some choice.thread) × (choice.next.mode ≡ mode_after mode)
chosen-is_last listed Before follow enabled choice e = taken-is_last listed follow enabled Before choice e
chosen-is_last listed (Hold held) follow enabled choice e =
    taken-is_last listed follow (without_thread held enabled) (Hold held) choice e
chosen-is_last listed (After held false) follow enabled choice e =
    rw (← (released-choice held follow enabled choice e).1) (refl, refl)
chosen-is_last listed (After held true) follow enabled choice e =
    taken-is_last listed follow enabled (After held true) choice e

pub choice-is_last : ChoiceIsLast
unfolding choose
choice-is_last listed policy enabled choice e = chosen-is_last listed policy.mode policy.follow enabled choice e

taken-listed : (listed : List ℕ) (follow : Follow) (threads : List ℕ) (mode : Mode) (choice : Choice) (entry : ℕ) →
    slice_get listed follow.position ≡ Some entry → Contains threads entry →
    option_map (followed_in mode) (follow_turns listed follow threads) ≡ Some choice →
    (choice.thread ≡ entry) × (choice.next.follow.position ≡ follow.position + 1)
taken-listed listed follow threads mode choice entry next among e =
    let is = IsTaken-from_choice listed follow threads mode choice e in
    rw (← is.is) (follow_turns-listed listed follow threads is.followed entry next among is.taken)

chosen-listed : (listed : List ℕ) (mode : Mode) (follow : Follow) (enabled : List ℕ) (choice : Choice) (entry : ℕ) →
    mode_after mode ≡ mode → MayChoose mode entry → slice_get listed follow.position ≡ Some entry →
    Contains enabled entry → choose_in mode listed follow enabled ≡ Some choice →
    (choice.thread ≡ entry) × (choice.next.follow.position ≡ follow.position + 1)
chosen-listed listed Before follow enabled choice entry stays may next among e =
    taken-listed listed follow enabled Before choice entry next among e
chosen-listed listed (Hold held) follow enabled choice entry stays may next among e =
    taken-listed listed follow (without_thread held enabled) (Hold held) choice entry next
    (Contains-without held enabled entry among may) e
chosen-listed listed (After held false) follow enabled choice entry stays may next among e =
    absurd (let h : ⊥ = cc in h)
chosen-listed listed (After held true) follow enabled choice entry stays may next among e =
    taken-listed listed follow enabled (After held true) choice entry next among e

pub choice-listed : ListedIsChosen
unfolding choose
choice-listed listed policy enabled choice entry stays may next among e =
    chosen-listed listed policy.mode policy.follow enabled choice entry stays may next among e

pub choice-released : ReleaseKeepsPlace
unfolding choose
choice-released listed policy enabled choice held due e =
    let now : choose_in (After held false) listed policy.follow enabled ≡ Some choice = rw due at e in
    rw (← (released-choice held policy.follow enabled choice now).1) (refl, refl)

pub choice-turns : TakesTurns
unfolding choose
choice-turns listed policy enabled choice before rise none e =
    let now : choose_in Before listed policy.follow enabled ≡ Some choice = rw before at e in
    let is = IsTaken-from_choice listed policy.follow enabled Before choice now in
    rw (← is.is) (follow_turns-next listed policy.follow enabled is.followed rise none is.taken)
