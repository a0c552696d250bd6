-- What the code of the hold and of the jobs answers, in terms of their definitions.
use Rattle.std.specs.Prelude.{◌≡◌, ℕ, ◌≤◌, List, Option, Some, None}
use Rattle.ir_types.specs.declared.«module».Module.{Module}
use Rattle.run_types.specs.declared.case.Case.{Case}
use Rattle.machine_model.specs.declared.state.State.{State}
use Rattle.machine_model.specs.Begun.{Begun}
use Rattle.machine_model.specs.Begun.Begun.{Ready, NotBegun, Complete}
use Rattle.machine_model.specs.Hold.{Held}
use Rattle.machine_model.specs.Hold.Held.{Reordered, NotEnforced, RunOver}
use Rattle.machine_model.specs.Job.{Alternate, HoldPoint}
use Rattle.machine_model.specs.Job.Alternate.{Ran, Not, Absent}
use Rattle.machine_model.specs.Repeat.{Snapshot}
use Rattle.concrete_machine.specs.Course.{IsOf, course_of}
use Rattle.race_top.specs.declared.order_enforcer.begun.Begun.{Begun as Answered}
use Rattle.race_top.specs.declared.order_enforcer.begun.Begun.TheVariants as starts
use Rattle.race_top.specs.declared.order_enforcer.hold.Enforced.{Enforced}
use Rattle.race_top.specs.declared.order_enforcer.hold.Enforced.TheVariants as answers
use Rattle.race_top.specs.declared.order_enforcer.job.Alternate.{Alternate as Answer}
use Rattle.race_top.specs.declared.order_enforcer.job.Alternate.TheVariants as alternates
use Rattle.race_top.specs.declared.order_enforcer.point.Point.{Point}
use Rattle.race_top.specs.Past.{Recalls}

-- the hold point was found, with what the repeat test compares with there
abbrev pub FindsPoint : Option Point → Option (HoldPoint State) → Type 0
FindsPoint None point = point ≡ None
FindsPoint (Some found) point =
    (snapshots : List (Snapshot State)) × Recalls snapshots found.past
    × (point ≡ Some (record { past = snapshots; course = course_of found.course; first = found.first }))

-- how the hold ends
abbrev pub Enforces : Enforced → Held State → Type 0
Enforces (answers.Ready course past) held =
    (snapshots : List (Snapshot State)) × Recalls snapshots past × (held ≡ Reordered snapshots (course_of course))
Enforces (answers.Not reason course) held = held ≡ NotEnforced reason (course_of course)
Enforces (answers.Ended run) held = held ≡ RunOver run

-- where it is done, the run goes on with no more steps and at most so many turns
abbrev pub IsReady : Module → Case → ℕ → ℕ → Enforced → Type 0
IsReady code case left turns (answers.Ready course past) =
    IsOf code case course × (course.left ≤ left) × (past.turns ≤ turns)
IsReady code case left turns (answers.Not reason course) = Unit {0}
IsReady code case left turns (answers.Ended run) = Unit {0}

-- where an alternate begins
abbrev pub Begins : Answered → Begun State → Type 0
Begins (starts.Ready course past) begun =
    (snapshots : List (Snapshot State)) × Recalls snapshots past × (begun ≡ Ready snapshots (course_of course))
Begins (starts.Not reason course) begun = begun ≡ NotBegun reason (course_of course)
Begins (starts.Complete run) begun = begun ≡ Complete run

-- where it goes on, it does so with no more steps and at most so many turns
abbrev pub IsBegun : Module → Case → ℕ → ℕ → Answered → Type 0
IsBegun code case left turns (starts.Ready course past) =
    IsOf code case course × (course.left ≤ left) × (past.turns ≤ turns)
IsBegun code case left turns (starts.Not reason course) = Unit {0}
IsBegun code case left turns (starts.Complete run) = Unit {0}

abbrev pub alternate_of : Answer → Alternate
alternate_of (alternates.Ran run) = Ran run
alternate_of (alternates.Not reason turns) = Not reason turns
alternate_of alternates.Absent = Absent
