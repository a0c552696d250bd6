-- The runs by which a race is judged on an input: the primary with the repeat test, and the alternates, in which the
-- race's second access is done before the first.
use Rattle.std.specs.Prelude.{option_map, ℕ, ◌+◌, ◌-◌, List, [], ◌∷◌, map, length, take, Option, Some, None, if◌then◌else◌}
use Rattle.ir_types.specs.declared.input.Input.{Input}
use Rattle.ir_types.specs.declared.«module».Module.{Module}
use Rattle.machine_model.specs.declared.access.Access.{Access}
use Rattle.run_types.specs.declared.case.Case.{Case}
use Rattle.run_types.specs.declared.race.Race.{Race}
use Rattle.run_types.specs.declared.run.Reason.{Reason}
use Rattle.run_types.specs.declared.run.Run.{Run}
use Rattle.machine_model.specs.declared.state.State.{State}
use Rattle.machine_model.specs.Begun.{Begun, begun_after}
use Rattle.machine_model.specs.Begun.Begun.{Ready, NotBegun, Complete}
use Rattle.machine_model.specs.Hold.{Held, held_from}
use Rattle.machine_model.specs.Moment.{Moment, access_at}
use Rattle.machine_model.specs.Policy.{holding}
use Rattle.machine_model.specs.Primary.{setting_of}
use Rattle.machine_model.specs.Reach.{Reaches, from_first, primary_moments}
use Rattle.machine_model.specs.Repeat.{Snapshot, snapshot_of}
use Rattle.machine_model.specs.Run.{Course}
use Rattle.machine_model.specs.System.{System, machine_of}
use Rattle.machine_model.specs.TestedRun.{tested_on, tested_run}

-- the primary of this input, with the repeat test after each turn
abbrev pub PrimaryJob : Module → Case → Input → Run
PrimaryJob code case input = tested_run (machine_of (setting_of code case input)) case.turns case.steps

abbrev pub snapshots : {S : Type 0} → List (Moment S) → List (Snapshot S)
snapshots moments = map (λ moment. snapshot_of moment.before) moments

abbrev pub held_course : {S : Type 0} → ℕ → Course S → Course S
held_course thread course = record course { policy = holding thread course.policy }

-- the hold point of a race: the snapshots up to it, the course before the race's first access, and that access
pub record HoldPoint (S : Type 0) : Type 0 where
  pub past : List (Snapshot S)
  pub course : Course S
  pub first : Access

abbrev pub point_at : {S : Type 0} → List (Snapshot S) → Moment S → Option Access → Option (HoldPoint S)
point_at past moment None = None
point_at past moment (Some first) = Some (record { past = past; course = moment.before; first = first })

-- of the moments of a run, and of those from the first access on
abbrev pub point_in : {S : Type 0} → System S → List (Moment S) → List (Moment S) → Option (HoldPoint S)
point_in system moments [] = None
point_in system moments (moment ∷ later) =
    point_at (snapshots (take (length moments - length later) moments)) moment (access_at system moment)

-- of the primary of this input; up to the hold point there is no repeat test
unfoldable pub point_of : Module → Case → Race → Input → Option (HoldPoint State)
point_of code case race input =
    let moments = primary_moments code case input in
    point_in (machine_of (setting_of code case input)) moments (from_first race moments)

-- the hold from its point on
abbrev pub hold_at : {S : Type 0} → System S → List ℕ → Race → HoldPoint S → Held S
hold_at system listed race point =
    held_from (point.course.left + 1) system listed race point.first point.past (held_course race.t1 point.course)

-- how the hold ends, where the primary of this input reaches the race
unfoldable pub hold_of : Module → Case → Race → Input → Option (Held State)
hold_of code case race input =
    if Reaches code case race input
    then option_map (hold_at (machine_of (setting_of code case input)) case.turns race) (point_of code case race input)
    else None

-- an alternate: a run, or why there is none
pub data Alternate : Type 0 where
  Ran : Run → Alternate
  Not : Reason → List ℕ → Alternate
  -- the primary of the input does not reach the race
  Absent : Alternate

-- the hold with the first thread's turn after it, where the primary of this input reaches the race
abbrev pub begun_of : Module → Case → Race → Input → Option (Begun State)
begun_of code case race input =
    option_map (begun_after (machine_of (setting_of code case input)) case.turns race) (hold_of code case race input)

-- the course with the chooser of the schedule of this number, counted from 1. There is one schedule, the first, which
-- follows the recorded turns again, as the chooser does that is there
abbrev pub scheduled : {S : Type 0} → ℕ → Course S → Course S
scheduled schedule course = course

-- the rest by the schedule of this number, with the repeat test after each turn
abbrev pub finished : {S : Type 0} → System S → List ℕ → ℕ → List (Snapshot S) → Course S → Run
finished system listed schedule past course = tested_on system listed past (scheduled schedule course)

abbrev pub alternate_from : {S : Type 0} → System S → List ℕ → ℕ → Option (Begun S) → Alternate
alternate_from system listed schedule None = Absent
alternate_from system listed schedule (Some (Ready past course)) = Ran (finished system listed schedule past course)
alternate_from system listed schedule (Some (NotBegun reason course)) = Not reason course.turns
alternate_from system listed schedule (Some (Complete run)) = Ran run

-- the alternate of this input by the schedule of this number
abbrev pub AlternateJob : Module → Case → Race → Input → ℕ → Alternate
AlternateJob code case race input schedule =
    alternate_from (machine_of (setting_of code case input)) case.turns schedule (begun_of code case race input)
