-- What contracts see of a machine, and its turns.
use Rattle.std.specs.Prelude.{ℕ, List}
use Rattle.ir_types.specs.declared.input.Input.{Input}
use Rattle.ir_types.specs.declared.instruction.Site.{Site}
use Rattle.ir_types.specs.declared.«module».Module.{Module}
use Rattle.machine_model.specs.declared.state.State.{State}
use Rattle.machine_model.specs.Turn.{Turned, turn}

-- the state, and the numbers that were decided so far
pub record Machine : Type 0 where
  pub state : State
  pub decided : List ℕ

-- the turn of a thread of a machine
abbrev pub machine_turn : Module → Input → List Site → Machine → ℕ → ℕ → Turned State
machine_turn code input watch machine number left =
    turn (record { code = code; input = input; watch = watch }) machine.state number left
