-- What a turn costs: no more than is left.
use Rattle.std.proofs.Common.{◌≡◌, ℕ, ◌≤◌, List, arith}
use Rattle.run_types.specs.declared.run.TurnEnd.{TurnEnd}
use Rattle.machine_model.specs.declared.state.State.{State}
use Rattle.machine_model.specs.Setting.{Setting}
use Rattle.machine_model.specs.SystemLaws.{price_of}
use Rattle.machine_model.specs.Turn.{Turned, turn}
use Rattle.machine_model.proofs.Accounts.{Balances, turn-balances}
use Rattle.concrete_machine.specs.Turns.{turn_leaving}

balanced : (state : State) (left : ℕ) (there : Turned State) →
    Balances state there.after left there.left (price_of there.end) → there.left ≤ left
balanced state left there balances = omega (arith, balances.grows, balances.pays)

pub turn-costs : (setting : Setting) (state after : State) (number left rest : ℕ) (decided : List ℕ) (end : TurnEnd) →
    turn setting state number left ≡ turn_leaving after rest decided end → rest ≤ left
turn-costs setting state after number left rest decided end is =
    balanced state left (turn_leaving after rest decided end) (rw is at (turn-balances setting state number left))
