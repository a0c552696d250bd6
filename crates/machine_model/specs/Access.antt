-- The operation that a thread waits to do, as other threads see it, and the accesses of memory among them.
use Rattle.std.specs.Prelude.{ℕ, ◌+◌, Bool, true, false, ◌&&◌, ◌||◌, ◌==◌, nat_lt, List, slice_get, slice_index, Option, Some, None}
use Rattle.ir_types.specs.declared.instruction.Inst.{Inst}
use Rattle.ir_types.specs.declared.instruction.Inst.TheVariants.{Binary, Compare, Convert, Same, Select, Phi, Alloca, Load, Store, Address, Branch, BranchIf, Switch, Ret, Unreachable, Call, External}
use Rattle.ir_types.specs.declared.instruction.Site.{Site}
use Rattle.ir_types.specs.declared.«module».Module.{Module}
use Rattle.ir_types.specs.Kind.{size_of}
use Rattle.machine_model.specs.declared.access.Access.{Access}
use Rattle.machine_model.specs.declared.pending.Pending.{Pending}
use Rattle.machine_model.specs.declared.pending.Pending.TheVariants as pendings
use Rattle.machine_model.specs.declared.state.Frame.{Frame}
use Rattle.machine_model.specs.declared.state.Operation.{Operation}
use Rattle.machine_model.specs.declared.state.Operation.TheVariants.{Start, At, CondReturn, Nothing}
use Rattle.machine_model.specs.declared.state.State.{State}
use Rattle.machine_model.specs.declared.state.Thread.{Thread}
use Rattle.machine_model.specs.Code.{Placed, next_in}
use Rattle.machine_model.specs.Thread.{top}

-- a visible instruction, its address decided; of loads and stores only those at watched sites are visible
abbrev pub pending_inst : Site → List ℕ → Inst → Pending
pending_inst site decided (Load to kind at) =
    pendings.Access site (slice_index decided 0) (size_of kind) false
pending_inst site decided (Store kind value at) =
    pendings.Access site (slice_index decided 0) (size_of kind) true
pending_inst site decided (Binary to op a b) = pendings.Other
pending_inst site decided (Compare to op a b) = pendings.Other
pending_inst site decided (Convert to op a width) = pendings.Other
pending_inst site decided (Same to a) = pendings.Other
pending_inst site decided (Select to c a b) = pendings.Other
pending_inst site decided (Phi to edges) = pendings.Other
pending_inst site decided (Alloca to unit count) = pendings.Other
pending_inst site decided (Address to base fixed scaled) = pendings.Other
pending_inst site decided (Branch block) = pendings.Other
pending_inst site decided (BranchIf c one other) = pendings.Other
pending_inst site decided (Switch value default cases) = pendings.Other
pending_inst site decided (Ret value) = pendings.Other
pending_inst site decided Unreachable = pendings.Other
pending_inst site decided (Call to function arguments) = pendings.Other
pending_inst site decided (External to which arguments) = pendings.Other

abbrev pub pending_placed : Site → List ℕ → Option Placed → Pending
pending_placed site decided None = pendings.Other
pending_placed site decided (Some placed) = pending_inst site decided placed.inst

abbrev pub pending_in : Module → Site → List ℕ → Option Frame → Pending
pending_in code site decided None = pendings.Other
pending_in code site decided (Some frame) = pending_placed site decided (next_in code frame)

unfoldable pub pending_operation : Module → Thread → Operation → Pending
pending_operation code thread Start = pendings.Start
pending_operation code thread (At site decided) = pending_in code site decided (top thread)
pending_operation code thread (CondReturn site decided) = pendings.Other
pending_operation code thread Nothing = pendings.Ended

abbrev pub pending_of : Module → Option Thread → Pending
pending_of code None = pendings.Unborn
pending_of code (Some thread) = pending_operation code thread thread.pending

-- what the thread of this number waits to do
abbrev pub pending_of_state : Module → State → ℕ → Pending
pending_of_state code state number = pending_of code (slice_get state.threads number)

abbrev pub access_of : Pending → Option Access
access_of (pendings.Access site at len store) =
    Some (record { site = site; at = at; len = len; store = store })
access_of pendings.Start = None
access_of pendings.Other = None
access_of pendings.Ended = None
access_of pendings.Unborn = None

-- the ranges have a byte in common
abbrev pub overlaps : Access → Access → Bool
overlaps one other = nat_lt one.at (other.at + other.len) && nat_lt other.at (one.at + one.len)

-- the accesses have a byte in common, and one of them is a store
abbrev pub conflicts : Access → Access → Bool
conflicts one other = overlaps one other && (one.store || other.store)
