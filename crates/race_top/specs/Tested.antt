-- What the code of a turn with the repeat test answers, in terms of the definitions.
use Rattle.std.specs.Prelude.{◌≡◌, ℕ, ◌≤◌, List}
use Rattle.ir_types.specs.declared.«module».Module.{Module}
use Rattle.run_types.specs.declared.case.Case.{Case}
use Rattle.machine_model.specs.declared.state.State.{State}
use Rattle.machine_model.specs.Begun.{Begun}
use Rattle.machine_model.specs.Begun.Begun.{Ready, Complete}
use Rattle.machine_model.specs.Repeat.{Snapshot}
use Rattle.concrete_machine.specs.Course.{IsOf, course_of}
use Rattle.race_top.specs.declared.order_enforcer.past.Past.{Past}
use Rattle.race_top.specs.declared.order_enforcer.tested.Tested.{Tested}
use Rattle.race_top.specs.declared.order_enforcer.tested.Tested.TheVariants as answers
use Rattle.race_top.specs.Past.{Recalls}

-- the turn was taken, and the run goes on, or is over
abbrev pub Tests : Tested → Begun State → Type 0
Tests (answers.Onward course past) begun =
    (snapshots : List (Snapshot State)) × Recalls snapshots past × (begun ≡ Ready snapshots (course_of course))
Tests (answers.Over run) begun = begun ≡ Complete run

-- where it goes on, it does so with no more steps and at most so many turns
abbrev pub IsWithin : Module → Case → ℕ → ℕ → Tested → Type 0
IsWithin code case left turns (answers.Onward course past) =
    IsOf code case course × (course.left ≤ left) × (past.turns ≤ turns)
IsWithin code case left turns (answers.Over run) = Unit {0}
