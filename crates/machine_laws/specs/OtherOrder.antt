-- What a hold is for: after it the race's accesses come in the other order.
use Rattle.std.specs.Prelude.{◌≡◌, ℕ, List, Some}
use Rattle.ir_types.specs.declared.input.Input.{Input}
use Rattle.ir_types.specs.declared.«module».Module.{Module}
use Rattle.run_types.specs.declared.case.Case.{Case}
use Rattle.run_types.specs.declared.race.Race.{Race}
use Rattle.machine_model.specs.declared.state.State.{State}
use Rattle.machine_model.specs.Access.{access_of}
use Rattle.machine_model.specs.Begun.{released_course}
use Rattle.machine_model.specs.Hold.Held.{Reordered}
use Rattle.machine_laws.specs.HoldLaws.{DidSecond}
use Rattle.machine_model.specs.Job.{HoldPoint, held_course, hold_at, point_of}
use Rattle.machine_model.specs.Policy.{Choice, choose}
use Rattle.machine_model.specs.Primary.{setting_of}
use Rattle.machine_model.specs.Repeat.{Snapshot}
use Rattle.machine_model.specs.Run.{Course}
use Rattle.machine_model.specs.System.{System, machine_of}
use Rattle.machine_model.specs.SystemLaws.{MayDo}

-- the last turn of the hold did the second access, which overlaps the first; the next turn of the alternate is the
-- held thread's, and it still waits to do the first
pub record IsTurnedRound {S : Type 0} (system : System S) (listed : List ℕ) (race : Race) (point : HoldPoint S) (snapshots : List (Snapshot S)) (after : Course S) : Type 0 where
  pub second : DidSecond system listed race point.first point.past snapshots (held_course race.t1 point.course) after
  pub choice : Choice
  pub chosen : choose listed (released_course race.t1 after).policy (system.enabled after.state) ≡ Some choice
  pub is_first : choice.thread ≡ race.t1
  pub waits : access_of (system.pending after.state race.t1) ≡ Some point.first

-- a hold that is done from a point on at which the held thread may do the first access
abbrev pub HoldTurnsRound : {S : Type 0} → System S → Type 0
HoldTurnsRound {S} system =
    (listed : List ℕ) (race : Race) (point : HoldPoint S) (snapshots : List (Snapshot S)) (after : Course S) →
    MayDo system point.course.state race.t1 point.first →
    hold_at system listed race point ≡ Reordered snapshots after → IsTurnedRound system listed race point snapshots after

-- and that of a module and a case
abbrev pub OrderIsTurnedRound : Type 0
OrderIsTurnedRound =
    (code : Module) (case : Case) (race : Race) (input : Input) (point : HoldPoint State)
    (snapshots : List (Snapshot State)) (after : Course State) →
    point_of code case race input ≡ Some point →
    hold_at (machine_of (setting_of code case input)) case.turns race point ≡ Reordered snapshots after →
    IsTurnedRound (machine_of (setting_of code case input)) case.turns race point snapshots after
