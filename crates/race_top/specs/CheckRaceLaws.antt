-- What holds of every race of two recorded turns.
use Rattle.std.specs.Prelude.{◌≡◌, ◌≢◌, ℕ, true, Ok}
use Rattle.ir_types.specs.declared.«module».Module.{Module}
use Rattle.run_types.specs.declared.case.Case.{Case}
use Rattle.run_types.specs.declared.race.Race.{Race}
use Rattle.machine_model.specs.Reach.{Reaches}
use Rattle.race_top.specs.CheckRace.{RaceOf}

-- the recorded run reaches it
abbrev pub RecordedRunReaches : Type 0
RecordedRunReaches =
    (code : Module) (case : Case) (pair : ℕ × ℕ) (race : Race) →
    RaceOf code case pair ≡ Ok race → Reaches code case race case.input ≡ true

-- its turns are of two threads
abbrev pub ThreadsDiffer : Type 0
ThreadsDiffer =
    (code : Module) (case : Case) (pair : ℕ × ℕ) (race : Race) → RaceOf code case pair ≡ Ok race → race.t1 ≢ race.t2
