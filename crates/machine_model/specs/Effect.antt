-- What an instruction or an operation does, its numbers decided.
use Rattle.std.specs.Prelude.{ℕ, List, Result, Ok, Err}
use Rattle.machine_model.specs.declared.state.Object.{Object}
use Rattle.machine_model.specs.declared.state.Thread.{Thread}
use Rattle.run_types.specs.declared.trap.Trap.{Trap}

-- what an invisible instruction can change: its thread and the objects
pub record Footprint : Type 0 where
  pub thread : Thread
  pub objects : List Object

-- every instruction costs 1; a number here is what it costs beyond that
pub data Effect (S : Type 0) : Type 0 where
  -- it is done, and leaves this
  Done : ℕ → S → Effect S
  -- it is done, and its return is the thread's next operation
  Pauses : ℕ → S → Effect S
  -- it ends the process with a status, and leaves this
  Exits : ℕ → ℕ → S → Effect S
  -- it traps and changes nothing
  Traps : Trap → Effect S
  -- it can't be done now
  Blocks : Effect S
  -- no row says what it does
  NoRow : Effect S

abbrev pub mapped : {S T : Type 0} → (S → T) → Effect S → Effect T
mapped f (Done more after) = Done more (f after)
mapped f (Pauses more after) = Pauses more (f after)
mapped f (Exits more status after) = Exits more status (f after)
mapped f (Traps trap) = Traps trap
mapped f Blocks = Blocks
mapped f NoRow = NoRow

-- a result with a trap for its error is done at no further cost, or traps
abbrev pub done_or_traps : {A S : Type 0} → (A → S) → Result A Trap → Effect S
done_or_traps f (Ok value) = Done 0 (f value)
done_or_traps f (Err trap) = Traps trap
