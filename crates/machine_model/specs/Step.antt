-- One step: what the next instruction of a thread, or the operation that a turn begins with, decides and does. What is
-- left of the budget has no part in it.
use Rattle.std.specs.Prelude.{ℕ, List, ◌++◌, Option, Some, None, if◌then◌else◌}
use Rattle.ir_types.specs.declared.instruction.Site.{Site}
use Rattle.machine_model.specs.declared.state.Frame.{Frame}
use Rattle.machine_model.specs.declared.state.Operation.{Operation}
use Rattle.machine_model.specs.declared.state.Operation.TheVariants.{Start, At, CondReturn, Nothing}
use Rattle.machine_model.specs.declared.state.State.{State}
use Rattle.machine_model.specs.declared.state.Thread.{Thread}
use Rattle.machine_model.specs.Code.{Placed, next_in}
use Rattle.machine_model.specs.Decision.{addresses_of, numbers_of}
use Rattle.machine_model.specs.Effect.{Effect, Footprint}
use Rattle.machine_model.specs.Instruction.{effect_of}
use Rattle.machine_model.specs.Operation.{is_visible, visible_effect}
use Rattle.machine_model.specs.Setting.{Setting}
use Rattle.machine_model.specs.Thread.{top}

pub data Step (S : Type 0) : Type 0 where
  -- an instruction becomes pending and leaves this, these addresses decided
  Waits : S → List ℕ → Step S
  -- it decides these numbers and has this effect
  Does : List ℕ → Site → Effect S → Step S
  -- a thread starts, which changes nothing
  Starts : Step S
  -- there is none to take
  Lacks : Step S

abbrev pub made_pending : Footprint → Site → List ℕ → Footprint
made_pending footprint site addresses =
    record footprint { thread = record footprint.thread { pending = At site addresses } }

-- a visible instruction becomes pending, and an invisible one is run
abbrev pub next_step_at : Setting → ℕ → Footprint → Frame → Option Placed → Step Footprint
next_step_at setting number footprint frame None = Lacks
next_step_at setting number footprint frame (Some placed) =
    let addresses = addresses_of frame placed.inst in
    if is_visible setting.watch footprint.thread placed.site placed.inst
    then Waits (made_pending footprint placed.site addresses) addresses
    else (let numbers = addresses ++ numbers_of setting.code footprint.objects frame addresses placed.inst in
    Does numbers placed.site (effect_of setting number footprint frame numbers placed.inst))

abbrev pub next_step_in : Setting → ℕ → Footprint → Option Frame → Step Footprint
next_step_in setting number footprint None = Lacks
next_step_in setting number footprint (Some frame) = next_step_at setting number footprint frame (next_in setting.code frame)

-- of the next instruction of a thread with this number
unfoldable pub next_step : Setting → ℕ → Footprint → Step Footprint
next_step setting number footprint = next_step_in setting number footprint (top footprint.thread)

-- an instruction that was pending decides the rest of its numbers when it runs
abbrev pub first_step_at : Setting → State → ℕ → Thread → List ℕ → Frame → Option Placed → Step State
first_step_at setting state number thread addresses frame None = Lacks
first_step_at setting state number thread addresses frame (Some placed) =
    let numbers = numbers_of setting.code state.objects frame addresses placed.inst in
    Does numbers placed.site (visible_effect setting state number thread frame (addresses ++ numbers) placed.inst)

abbrev pub first_step_in : Setting → State → ℕ → Thread → List ℕ → Option Frame → Step State
first_step_in setting state number thread addresses None = Lacks
first_step_in setting state number thread addresses (Some frame) =
    first_step_at setting state number thread addresses frame (next_in setting.code frame)

-- of the operation with which a turn begins
unfoldable pub first_step : Setting → State → ℕ → Thread → Operation → Step State
first_step setting state number thread Start = Starts
first_step setting state number thread (At site addresses) = first_step_in setting state number thread addresses (top thread)
first_step setting state number thread (CondReturn site addresses) = Lacks
first_step setting state number thread Nothing = Lacks
