-- What the code of the concrete machine answers after one instruction.
use Rattle.std.specs.Prelude.{ℕ, List, Option, Some, None}
use Rattle.run_types.specs.declared.run.TurnEnd.{TurnEnd}
use Rattle.machine_model.specs.Turn.{Move, stopped}
use Rattle.machine_model.specs.Turn.Move.{Leads}

-- the turn goes on from what the instruction left, or has ended there
abbrev pub moved_to : {S : Type 0} → Option TurnEnd → S → ℕ → List ℕ → Move S
moved_to None after left decided = Leads after left decided
moved_to (Some end) after left decided = stopped after left decided end
