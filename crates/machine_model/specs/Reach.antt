-- Whether a run reaches a race: the first access is done in the turn that the race says, and the second in a later
-- one.
use Rattle.std.specs.Prelude.{Bool, false, ◌&&◌, ◌==◌, List, [], ◌∷◌, Option, Some, None}
use Rattle.std.specs.List.{list_any}
use Rattle.ir_types.specs.declared.input.Input.{Input}
use Rattle.ir_types.specs.declared.«module».Module.{Module}
use Rattle.machine_model.specs.declared.access.Access.{Access}
use Rattle.run_types.specs.declared.case.Case.{Case}
use Rattle.run_types.specs.declared.race.Race.{Race}
use Rattle.machine_model.specs.declared.state.State.{State}
use Rattle.machine_model.specs.Access.{overlaps}
use Rattle.run_types.specs.Site.{is_site}
use Rattle.machine_model.specs.Moment.{Moment, access_at, from_turn, moments_of}
use Rattle.machine_model.specs.Primary.{setting_of}
use Rattle.machine_model.specs.System.{System, machine_of}

-- the access is the race's second one, and overlaps the first
abbrev pub is_second : Race → Access → Option Access → Bool
is_second race first None = false
is_second race first (Some access) = is_site access.site race.s2 && overlaps access first

-- the turn is one of the race's second thread, and does that access
abbrev pub does_second : {S : Type 0} → System S → Race → Access → Moment S → Bool
does_second system race first moment =
    (moment.thread == race.t2) && is_second race first (access_at system moment)

abbrev pub reaches_after : {S : Type 0} → System S → Race → List (Moment S) → Option Access → Bool
reaches_after system race later None = false
reaches_after system race later (Some first) =
    is_site first.site race.s1 && list_any (does_second system race first) later

-- of the moments from the first access on
abbrev pub reaches_from : {S : Type 0} → System S → Race → List (Moment S) → Bool
reaches_from system race [] = false
reaches_from system race (moment ∷ later) = reaches_after system race later (access_at system moment)

-- the moments of the run from the race's first access on; the hold point is before the first of them
abbrev pub from_first : {S : Type 0} → Race → List (Moment S) → List (Moment S)
from_first race moments = from_turn race.t1 race.v1 moments

abbrev pub primary_moments : Module → Case → Input → List (Moment State)
primary_moments code case input = moments_of (machine_of (setting_of code case input)) case.turns case.steps

-- the primary of this input reaches the race
unfoldable pub Reaches : Module → Case → Race → Input → Bool
Reaches code case race input =
    reaches_from (machine_of (setting_of code case input)) race (from_first race (primary_moments code case input))
