-- What holds of every choice of a thread, whatever the list of turns.
use Rattle.std.specs.Prelude.{◌≡◌, ◌≢◌, ℕ, ◌+◌, ◌<◌, ◌≤◌, ◌⊎◌, true, false, List, Contains, All, Some, None, Option, drop, slice_get}
use Rattle.std.specs.List.Sorted.{IsStrictlyIncreasing}
use Rattle.machine_model.specs.declared.mode.Mode.{Mode}
use Rattle.machine_model.specs.declared.mode.Mode.TheVariants.{Before, Hold, After}
use Rattle.machine_model.specs.Policy.{Policy, Choice, choose}

-- the thread may be chosen in this mode
abbrev pub MayChoose : Mode → ℕ → Type 0
MayChoose Before thread = Unit {0}
MayChoose (Hold held) thread = thread ≢ held
MayChoose (After held false) thread = thread ≡ held
MayChoose (After held true) thread = Unit {0}

-- the mode after a choice
abbrev pub mode_after : Mode → Mode
mode_after Before = Before
mode_after (Hold held) = Hold held
mode_after (After held chosen) = After held true

-- what is chosen is enabled and may be chosen, and something is chosen wherever such a thread is
abbrev pub ChoiceIsEnabled : Type 0
ChoiceIsEnabled =
    (listed : List ℕ) (policy : Policy) (enabled : List ℕ) (choice : Choice) →
    choose listed policy enabled ≡ Some choice →
    Contains enabled choice.thread × MayChoose policy.mode choice.thread

abbrev pub ChoosesUnlessNone : Type 0
ChoosesUnlessNone =
    (listed : List ℕ) (policy : Policy) (enabled : List ℕ) (thread : ℕ) → choose listed policy enabled ≡ None →
    Contains enabled thread → ¬ MayChoose policy.mode thread

-- a choice makes its thread the one chosen last, and leaves the mode but for the held thread's turn
abbrev pub ChoiceIsLast : Type 0
ChoiceIsLast =
    (listed : List ℕ) (policy : Policy) (enabled : List ℕ) (choice : Choice) →
    choose listed policy enabled ≡ Some choice →
    (choice.next.follow.last ≡ Some choice.thread) × (choice.next.mode ≡ mode_after policy.mode)

-- the next entry of the list is chosen where it is enabled and may be chosen, unless the held thread is due
abbrev pub ListedIsChosen : Type 0
ListedIsChosen =
    (listed : List ℕ) (policy : Policy) (enabled : List ℕ) (choice : Choice) (entry : ℕ) →
    mode_after policy.mode ≡ policy.mode → MayChoose policy.mode entry →
    slice_get listed policy.follow.position ≡ Some entry → Contains enabled entry →
    choose listed policy enabled ≡ Some choice →
    (choice.thread ≡ entry) × (choice.next.follow.position ≡ policy.follow.position + 1)

-- the turn of the thread that was held moves nothing in the list
abbrev pub ReleaseKeepsPlace : Type 0
ReleaseKeepsPlace =
    (listed : List ℕ) (policy : Policy) (enabled : List ℕ) (choice : Choice) (held : ℕ) →
    policy.mode ≡ After held false → choose listed policy enabled ≡ Some choice →
    (choice.thread ≡ held) × (choice.next.follow.position ≡ policy.follow.position)

abbrev pub IsAbove : Option ℕ → ℕ → Type 0
IsAbove None thread = Unit {0}
IsAbove (Some last) thread = last < thread

-- the least of the threads above the one chosen last, or the least where none is above it
abbrev pub IsNext : Option ℕ → List ℕ → ℕ → Type 0
IsNext last threads thread =
    (IsAbove last thread × ((other : ℕ) → Contains threads other → IsAbove last other → thread ≤ other))
    ⊎ (((other : ℕ) → Contains threads other → ¬ IsAbove last other) × ((other : ℕ) → Contains threads other → thread ≤ other))

-- where no thread of the rest of the list is enabled, the threads take turns by their numbers
abbrev pub TakesTurns : Type 0
TakesTurns =
    (listed : List ℕ) (policy : Policy) (enabled : List ℕ) (choice : Choice) →
    policy.mode ≡ Before → IsStrictlyIncreasing enabled →
    All (λ entry. ¬ Contains enabled entry) (drop policy.follow.position listed) →
    choose listed policy enabled ≡ Some choice → IsNext policy.follow.last enabled choice.thread
