-- What holds of each step with which a turn begins.
use Rattle.std.proofs.Common.{ℕ, List, Option, Some, None}
use Rattle.ir_types.specs.declared.instruction.Inst.{Inst}
use Rattle.ir_types.specs.declared.instruction.Site.{Site}
use Rattle.machine_model.specs.declared.state.Frame.{Frame}
use Rattle.machine_model.specs.declared.state.Operation.{Operation}
use Rattle.machine_model.specs.declared.state.Operation.TheVariants.{Start, At, CondReturn, Nothing}
use Rattle.machine_model.specs.declared.state.State.{State}
use Rattle.machine_model.specs.declared.state.Thread.{Thread}
use Rattle.machine_model.specs.Code.{Placed, next_in}
use Rattle.machine_model.specs.Operation.{visible_effect}
use Rattle.machine_model.specs.Setting.{Setting}
use Rattle.machine_model.specs.Step.{Step, first_step, first_step_at, first_step_in}
use Rattle.machine_model.specs.Step.Step.{Does, Starts, Lacks}
use Rattle.machine_model.specs.Thread.{top}

-- it starts its thread, runs a visible instruction, or there is none
pub each-first_step : (P : Step State → Type 0) (setting : Setting) (state : State) (number : ℕ) (thread : Thread)
    (operation : Operation) → P Starts → P Lacks →
    ((numbers decided : List ℕ) (site : Site) (frame : Frame) (inst : Inst) →
    P (Does numbers site (visible_effect setting state number thread frame decided inst))) →
    P (first_step setting state number thread operation)
unfolding first_step
each-first_step P setting state number thread Start starts lacks runs = starts
each-first_step P setting state number thread (At site addresses) starts lacks runs = of_frame (top thread)
  where
    of_placed : (frame : Frame) (placed : Option Placed) →
        P (first_step_at setting state number thread addresses frame placed)
    of_placed frame None = lacks
    of_placed frame (Some placed) = runs _ _ placed.site frame placed.inst

    of_frame : (frame : Option Frame) → P (first_step_in setting state number thread addresses frame)
    of_frame None = lacks
    of_frame (Some frame) = of_placed frame (next_in setting.code frame)
each-first_step P setting state number thread (CondReturn site addresses) starts lacks runs = lacks
each-first_step P setting state number thread Nothing starts lacks runs = lacks
