-- What the code of the operations answers with which turns begin.
use Rattle.std.specs.Prelude.{◌≡◌, ℕ, slice_get, Option, Some, None}
use Rattle.ir_types.specs.declared.instruction.Inst.{Inst}
use Rattle.ir_types.specs.declared.instruction.Inst.TheVariants.{Binary, Compare, Convert, Same, Select, Phi, Alloca, Load, Store, Address, Branch, BranchIf, Switch, Ret, Unreachable, Call, External}
use Rattle.machine_model.specs.declared.state.Frame.{Frame}
use Rattle.machine_model.specs.declared.state.State.{State}
use Rattle.machine_model.specs.declared.state.Thread.{Thread}
use Rattle.machine_model.specs.Effect.{Effect}
use Rattle.machine_model.specs.Effect.Effect.{Done, Exits, Traps, Blocks, NoRow}
use Rattle.machine_model.specs.Thread.{top}
use Rattle.concrete_machine.specs.declared.operation.Action.{Action}
use Rattle.concrete_machine.specs.declared.operation.Action.TheVariants as actions
use Rattle.concrete_machine.specs.Call.{items_of_call}
use Rattle.concrete_machine.specs.Frame.{HasRoom}

-- what a visible instruction answers that costs so much beyond 1
abbrev pub Acts : Action → ℕ → State → State → Effect State → Type 0
Acts actions.Done more before after effect = effect ≡ Done more after
Acts (actions.Exits status) more before after effect = effect ≡ Exits more status after
Acts (actions.Traps trap) more before after effect = (effect ≡ Traps trap) × (after ≡ before)
Acts actions.Blocks more before after effect = (effect ≡ Blocks) × (after ≡ before)
Acts actions.NoRow more before after effect = (effect ≡ NoRow) × (after ≡ before)

-- how many items an instruction prints
abbrev pub items_of : Inst → ℕ
items_of (Binary to op a b) = 0
items_of (Compare to op a b) = 0
items_of (Convert to op a width) = 0
items_of (Same to a) = 0
items_of (Select to c a b) = 0
items_of (Phi to edges) = 0
items_of (Alloca to unit count) = 0
items_of (Load to kind at) = 0
items_of (Store kind value at) = 0
items_of (Address to base fixed scaled) = 0
items_of (Branch block) = 0
items_of (BranchIf c one other) = 0
items_of (Switch value default cases) = 0
items_of (Ret value) = 0
items_of Unreachable = 0
items_of (Call to function arguments) = 0
items_of (External to which arguments) = items_of_call which

-- the thread has a frame that can go on
abbrev pub CanGoOn : Option Thread → Type 0
CanGoOn None = ⊥
CanGoOn (Some thread) = HasRoom (top thread)

-- the frame that runs of a thread by its number
abbrev pub IsTopOf : Option Thread → Frame → Type 0
IsTopOf None frame = ⊥
IsTopOf (Some thread) frame = top thread ≡ Some frame

abbrev pub IsTop : State → ℕ → Frame → Type 0
IsTop state number frame = IsTopOf (slice_get state.threads number) frame
