-- What the code of turns answers, and that of parts of one.
use Rattle.std.specs.Prelude.{ℕ, List}
use Rattle.run_types.specs.declared.run.TurnEnd.{TurnEnd}
use Rattle.machine_model.specs.Turn.{Turned}

abbrev pub turn_leaving : {S : Type 0} → S → ℕ → List ℕ → TurnEnd → Turned S
turn_leaving after left decided end = record { after = after; left = left; decided = decided; end = end }
