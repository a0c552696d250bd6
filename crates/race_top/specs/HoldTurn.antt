-- One turn of the hold, as the code answers it, in terms of the definitions.
use Rattle.std.specs.Prelude.{◌≡◌, ℕ, ◌≤◌, List}
use Rattle.ir_types.specs.declared.«module».Module.{Module}
use Rattle.run_types.specs.declared.case.Case.{Case}
use Rattle.machine_model.specs.declared.state.State.{State}
use Rattle.machine_model.specs.Hold.{Held}
use Rattle.machine_model.specs.Repeat.{Snapshot}
use Rattle.machine_model.specs.Run.{Course}
use Rattle.concrete_machine.specs.Course.{IsOf, course_of}
use Rattle.race_top.specs.declared.order_enforcer.hold.HoldAdvance.{HoldAdvance}
use Rattle.race_top.specs.declared.order_enforcer.hold.HoldAdvance.TheVariants.{Onward, Over}
use Rattle.race_top.specs.OrderEnforcer.{Enforces, IsReady}
use Rattle.race_top.specs.Past.{Recalls}

-- after a turn the hold goes on, or that is how it ends
abbrev pub LeadsTo : (List (Snapshot State) → Course State → Held State) → HoldAdvance → Held State → Type 0
LeadsTo go (Onward course past) held =
    (snapshots : List (Snapshot State)) × Recalls snapshots past × (held ≡ go snapshots (course_of course))
LeadsTo go (Over enforced) held = Enforces enforced held

-- the run goes on with no more steps and at most so many turns
abbrev pub StaysWithin : Module → Case → ℕ → ℕ → HoldAdvance → Type 0
StaysWithin code case left turns (Onward course past) =
    IsOf code case course × (course.left ≤ left) × (past.turns ≤ turns)
StaysWithin code case left turns (Over enforced) = IsReady code case left turns enforced
