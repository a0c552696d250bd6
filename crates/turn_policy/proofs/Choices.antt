-- What the chooser picks, by its mode and by what stands in front of its list and of the threads.
use Rattle.std.proofs.Common.{◌≡◌, ℕ, ◌+◌, ◌-◌, true, false, List, ◌∷◌, [], length, drop, take, Option, Some, None, refl, sym, ap, ◌∙◌}
use Rattle.std.specs.Prelude.{find, option_map, position, slice_index, unwrap_or, if◌then◌else◌}
use Rattle.std.proofs.lemmas.List.{take_rest}
use Rattle.machine_model.specs.declared.mode.Mode.TheVariants.{Before, Hold, After}
use Rattle.machine_model.specs.Follow.{Follow, Followed, follow_turns, is_above, is_among}
use Rattle.machine_model.specs.Policy.{Choice, Policy, choose, followed_in, released}
use Rattle.turn_policy.specs.Policy.{free_threads}

pub follow-none : (listed : List ℕ) (follow : Follow) (threads : List ℕ) →
    find (is_above None) threads ≡ None → follow_turns listed follow threads ≡ None
unfolding follow_turns
follow-none listed follow [] none = refl
follow-none listed follow (first ∷ others) none = absurd (let h : ⊥ = cc in h)

-- the thread that is taken, which leaves the chooser at a position
abbrev pub taken_at : ℕ → ℕ → Followed
taken_at position thread = record { thread = thread; next = record { position = position; last = Some thread } }

-- an entry of the list is among the threads
pub follow-entry : (listed : List ℕ) (follow : Follow) (threads : List ℕ) (first entry : ℕ) →
    find (is_above None) threads ≡ Some first →
    position (is_among threads) (drop follow.position listed) ≡ Some entry →
    follow_turns listed follow threads
    ≡ Some (taken_at (follow.position + entry + 1) (slice_index listed (follow.position + entry)))
unfolding follow_turns
follow-entry listed follow [] first entry some found = absurd (let h : ⊥ = cc in h)
follow-entry listed follow (other ∷ others) first entry some found = rw found refl

-- that entry, where it is looked for in what is left of the list
pub position-left : (threads listed slice : List ℕ) (place : ℕ) → slice ≡ listed →
    position (is_among threads) (drop place listed)
    ≡ position (is_among threads) (take (length slice - place) (drop place slice))
position-left threads listed slice place same =
    ap (λ items. position (is_among threads) (drop place items)) (sym same)
    ∙ ap (position (is_among threads)) (sym (take_rest slice place))

-- no entry of the list is among the threads
pub follow-past : (listed : List ℕ) (follow : Follow) (threads : List ℕ) (first : ℕ) →
    find (is_above None) threads ≡ Some first →
    position (is_among threads) (drop follow.position listed) ≡ None →
    follow_turns listed follow threads
    ≡ Some (taken_at (length listed) (unwrap_or (find (is_above follow.last) threads) first))
unfolding follow_turns
follow-past listed follow [] first some none = absurd (let h : ⊥ = cc in h)
follow-past listed follow (other ∷ others) first some none =
    let same : other ≡ first = cc in rw (none, same) refl

-- the rule by which a mode follows
abbrev follows_in : List ℕ → Policy → List ℕ → Option ℕ → Option Choice
follows_in listed policy enabled held =
    option_map (followed_in policy.mode) (follow_turns listed policy.follow (free_threads held enabled))

pub choose-before : (listed : List ℕ) (policy : Policy) (enabled : List ℕ) → policy.mode ≡ Before →
    choose listed policy enabled ≡ follows_in listed policy enabled None
unfolding choose
choose-before listed policy enabled mode = rw mode refl

pub choose-hold : (listed : List ℕ) (policy : Policy) (enabled : List ℕ) (held : ℕ) → policy.mode ≡ Hold held →
    choose listed policy enabled ≡ follows_in listed policy enabled (Some held)
unfolding choose
choose-hold listed policy enabled held mode = rw mode refl

pub choose-released : (listed : List ℕ) (policy : Policy) (enabled : List ℕ) (held : ℕ) →
    policy.mode ≡ After held false →
    choose listed policy enabled ≡ (if is_among enabled held then Some (released held policy.follow) else None)
unfolding choose
choose-released listed policy enabled held mode = rw mode refl

pub choose-after : (listed : List ℕ) (policy : Policy) (enabled : List ℕ) (held : ℕ) →
    policy.mode ≡ After held true →
    choose listed policy enabled ≡ follows_in listed policy enabled None
unfolding choose
choose-after listed policy enabled held mode = rw mode refl
