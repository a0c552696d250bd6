-- What holds between turns of the operations that threads wait to do.
use Rattle.std.specs.Prelude.{◌≡◌, ℕ, false, List, All, Option, Some, None}
use Rattle.ir_types.specs.declared.instruction.Site.{Site}
use Rattle.ir_types.specs.declared.«module».Module.{Module}
use Rattle.run_types.specs.declared.run.TurnEnd.TheVariants.{Going}
use Rattle.machine_model.specs.declared.state.Frame.{Frame}
use Rattle.machine_model.specs.declared.state.Operation.{Operation}
use Rattle.machine_model.specs.declared.state.Operation.TheVariants.{Start, At, CondReturn, Nothing}
use Rattle.machine_model.specs.declared.state.State.{State}
use Rattle.machine_model.specs.declared.state.Thread.{Thread}
use Rattle.machine_model.specs.Code.{Placed, next_in}
use Rattle.machine_model.specs.Decision.{addresses_of}
use Rattle.machine_model.specs.Moment.{Moment, moments_of}
use Rattle.machine_model.specs.Start.{started}
use Rattle.machine_model.specs.System.{machine_of}
use Rattle.machine_model.specs.Setting.{Setting}
use Rattle.machine_model.specs.Thread.{has_ended, top}
use Rattle.machine_model.specs.Turn.{turn}

-- there is such an instruction, at this site, and the frame gives it these addresses
abbrev pub IsNextAt : Frame → Site → List ℕ → Option Placed → Type 0
IsNextAt frame site addresses None = ⊥
IsNextAt frame site addresses (Some placed) = (placed.site ≡ site) × (addresses_of frame placed.inst ≡ addresses)

-- of the next instruction of the frame
abbrev pub IsNextIn : Module → Site → List ℕ → Option Frame → Type 0
IsNextIn code site addresses None = ⊥
IsNextIn code site addresses (Some frame) = IsNextAt frame site addresses (next_in code frame)

-- what a thread with this last frame waits to do, where it has not ended: to start, or to run the frame's next
-- instruction. No row makes it wait for the return of a call
abbrev pub IsNext : Module → Option Frame → Operation → Type 0
IsNext code frame Start = Unit {0}
IsNext code frame (At site addresses) = IsNextIn code site addresses frame
IsNext code frame (CondReturn site addresses) = ⊥
IsNext code frame Nothing = ⊥

abbrev pub IsPending : Module → Thread → Type 0
IsPending code thread = has_ended thread ≡ false → IsNext code (top thread) thread.pending

abbrev pub ArePending : Module → State → Type 0
ArePending code state = All (IsPending code) state.threads

abbrev pub StartedArePending : Type 0
StartedArePending = (code : Module) → ArePending code (started code)

-- a turn after which the run goes on, whichever thread's it was
abbrev pub TurnKeepsPending : Type 0
TurnKeepsPending =
    (setting : Setting) (state : State) (number left : ℕ) → ArePending setting.code state →
    let turned = turn setting state number left in turned.end ≡ Going → ArePending setting.code turned.after

abbrev pub MomentsArePending : Type 0
MomentsArePending =
    (setting : Setting) (listed : List ℕ) (steps : ℕ) →
    All (λ (moment : Moment State). ArePending setting.code moment.before.state) (moments_of (machine_of setting) listed steps)
