-- The race of two recorded turns, or why they are none. The turns are numbered from 1.
use Rattle.std.specs.Prelude.{ℕ, ◌-◌, Bool, ◌&&◌, ◌==◌, nat_lt, nat_le, List, codes, filter, length, take, slice_get, Option, Some, None, Result, Ok, Err, if◌then◌else◌}
use Rattle.ir_types.specs.declared.«module».Module.{Module}
use Rattle.machine_model.specs.declared.access.Access.{Access}
use Rattle.run_types.specs.declared.case.Case.{Case}
use Rattle.run_types.specs.declared.race.Race.{Race}
use Rattle.machine_model.specs.Access.{conflicts}
use Rattle.machine_model.specs.Moment.{Moment, access_at}
use Rattle.machine_model.specs.Primary.{setting_of}
use Rattle.machine_model.specs.Reach.{primary_moments}
use Rattle.machine_model.specs.System.{System, machine_of}
use Rattle.race_top.specs.declared.trace_replay.check.RaceError.{RaceError}
use Rattle.race_top.specs.declared.trace_replay.check.RaceError.TheVariants.{Range, SameThread, NotWatched, NoConflict}

abbrev pub name_of : RaceError → List ℕ
name_of Range = codes "Range"
name_of SameThread = codes "SameThread"
name_of NotWatched = codes "NotWatched"
name_of NoConflict = codes "NoConflict"

-- two recorded turns of so many, the second after the first
abbrev pub is_range : ℕ → ℕ → ℕ → Bool
is_range first second count = nat_lt 0 first && nat_lt first second && nat_le second count

-- how many of these turns are a thread's
abbrev pub turns_of : {S : Type 0} → ℕ → List (Moment S) → ℕ
turns_of thread moments = length (filter (λ moment. moment.thread == thread) moments)

abbrev pub race_by : {S : Type 0} → List (Moment S) → ℕ → ℕ → Moment S → Moment S → Access → Access →
    Result Race RaceError
race_by early first second one other access again =
    if conflicts access again then Ok (record {
      first = first;
      second = second;
      t1 = one.thread;
      v1 = turns_of one.thread early;
      s1 = access.site;
      t2 = other.thread;
      s2 = again.site;
    })
    else Err NoConflict

abbrev pub race_with : {S : Type 0} → List (Moment S) → ℕ → ℕ → Moment S → Moment S → Option Access →
    Option Access → Result Race RaceError
race_with early first second one other (Some access) (Some again) =
    race_by early first second one other access again
race_with early first second one other (Some access) None = Err NotWatched
race_with early first second one other None again = Err NotWatched

-- of two turns of the run; a turn that the run does not have does no access
abbrev pub race_at : {S : Type 0} → System S → List (Moment S) → ℕ → ℕ → Option (Moment S) → Option (Moment S) →
    Result Race RaceError
race_at system moments first second (Some one) (Some other) =
    if one.thread == other.thread then Err SameThread
    else race_with (take first moments) first second one other (access_at system one) (access_at system other)
race_at system moments first second (Some one) None = Err NotWatched
race_at system moments first second None other = Err NotWatched

-- the race of a pair of recorded turns: they are two threads', each does an access, and the accesses conflict
unfoldable pub RaceOf : Module → Case → ℕ × ℕ → Result Race RaceError
RaceOf code case pair =
    let moments = primary_moments code case case.input in
    if is_range pair.0 pair.1 (length case.turns)
    then race_at (machine_of (setting_of code case case.input)) moments pair.0 pair.1
    (slice_get moments (pair.0 - 1)) (slice_get moments (pair.1 - 1))
    else Err Range
