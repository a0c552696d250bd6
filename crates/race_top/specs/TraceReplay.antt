-- The recorded run: whether the listed turns are those of the primary.
use Rattle.std.specs.Prelude.{ℕ, ◌+◌, Bool, not, ◌&&◌, ◌==◌, nat_lt, nat_le, if◌then◌else◌, List, codes, length, position, Option, Some, None, Result, Ok, Err}
use Rattle.std.specs.List.{zip}
use Rattle.ir_types.specs.declared.«module».Module.{Module}
use Rattle.run_types.specs.declared.case.Case.{Case}
use Rattle.run_types.specs.declared.run.Outcome.{Outcome}
use Rattle.run_types.specs.declared.run.Outcome.TheVariants as outcomes
use Rattle.run_types.specs.declared.run.Run.{Run}
use Rattle.machine_model.specs.Primary.{Primary}
use Rattle.race_top.specs.declared.trace_replay.ReplayError.{ReplayError}
use Rattle.race_top.specs.declared.trace_replay.ReplayError.TheVariants.{TurnNotEnabled, EndsEarly, Spent}

abbrev pub name_of : ReplayError → List ℕ
name_of (TurnNotEnabled turn) = codes "TurnNotEnabled"
name_of (EndsEarly turn) = codes "EndsEarly"
name_of (Spent turn) = codes "Spent"

abbrev pub place_of : ReplayError → ℕ
place_of (TurnNotEnabled turn) = turn
place_of (EndsEarly turn) = turn
place_of (Spent turn) = turn

-- the place, counted from 0, of the first turn that another thread takes than the listed one
abbrev pub first_other : List ℕ → List ℕ → Option ℕ
first_other listed turns = position (λ pair. not (pair.0 == pair.1)) (zip listed turns)

abbrev pub is_listed : List ℕ → ℕ → Bool
is_listed listed turn = nat_lt 0 turn && nat_le turn (length listed)

-- of a run of so many turns, all of them as listed: it has ended before a listed turn, or its budget ended
-- in one
abbrev pub error_at_end : List ℕ → ℕ → Outcome → Option ReplayError
error_at_end listed taken outcomes.Spent = if is_listed listed taken then Some (Spent taken) else None
error_at_end listed taken outcome = if is_listed listed (taken + 1) then Some (EndsEarly (taken + 1)) else None

abbrev pub error_from : List ℕ → Run → Option ℕ → Option ReplayError
error_from listed run (Some place) = Some (TurnNotEnabled (place + 1))
error_from listed run None = error_at_end listed (length run.turns) run.outcome

-- the first listed turn that the run that follows the list does not take. Its thread is not enabled where the
-- run takes another one there
unfoldable pub replay_error : List ℕ → Run → Option ReplayError
replay_error listed run = error_from listed run (first_other listed run.turns)

abbrev pub unless : Option ReplayError → Run → Result Run ReplayError
unless None run = Ok run
unless (Some error) run = Err error

-- the recorded run, where its listed turns can be taken
unfoldable pub replay_of : Module → Case → Result Run ReplayError
replay_of code case =
    let run = Primary code case case.input in
    unless (replay_error case.turns run) run
