-- What the repeat test compares: the equality that it decides, and the turns.
use Rattle.std.specs.Prelude.{◌≡◌, ◌↔◌, ℕ, ◌*◌, ◌^◌, ◌<◌, ◌≤◌, true}
use Rattle.machine_model.specs.declared.state.State.{State}
use Rattle.machine_model.specs.Policy.{Policy}
use Rattle.machine_model.specs.Repeat.{earlier_turn, same_policy}
use Rattle.machine_model.specs.System.{same_state, without_output}

-- the tests are those of equality
abbrev pub SameStateIsEqual : Type 0
SameStateIsEqual =
    (one other : State) → (same_state one other ≡ true) ↔ (without_output one ≡ without_output other)

abbrev pub SamePolicyIsEqual : Type 0
SamePolicyIsEqual = (one other : Policy) → (same_policy one other ≡ true) ↔ (one ≡ other)

-- the earlier turn is the greatest power of two below the turn
abbrev pub EarlierTurnIsPower : Type 0
EarlierTurnIsPower =
    (turn : ℕ) → 1 < turn →
    ((exponent : ℕ) × (earlier_turn turn ≡ 2 ^ exponent)) × (earlier_turn turn < turn) × (turn ≤ 2 * earlier_turn turn)
