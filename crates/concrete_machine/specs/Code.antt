-- The next instruction of a thread, as the code of the machine finds it.
use Rattle.std.specs.Prelude.{Option, Some, None}
use Rattle.ir_types.specs.declared.«module».Module.{Module}
use Rattle.machine_model.specs.declared.state.Frame.{Frame}
use Rattle.machine_model.specs.declared.state.Thread.{Thread}
use Rattle.machine_model.specs.Code.{Placed, next_in}
use Rattle.machine_model.specs.Thread.{top}
use Rattle.concrete_machine.specs.declared.code.Placed.{Placed as Borrowed}

-- the instruction that was found, with its site
abbrev pub placed_of : Borrowed → Placed
placed_of placed = record { site = placed.site; inst = placed.inst.now }

abbrev pub next_at : Module → Option Frame → Option Placed
next_at code None = None
next_at code (Some frame) = next_in code frame

-- the next instruction of a thread
abbrev pub next_of : Module → Thread → Option Placed
next_of code thread = next_at code (top thread)
