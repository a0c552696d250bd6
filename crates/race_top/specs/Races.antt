-- The races of a case, or the first pair of turns that is none.
use Rattle.std.specs.Prelude.{ℕ, ◌+◌, List, [], ◌∷◌, Result, Ok}
use Rattle.ir_types.specs.declared.«module».Module.{Module}
use Rattle.run_types.specs.declared.case.Case.{Case}
use Rattle.run_types.specs.declared.race.Race.{Race}
use Rattle.rc_base.specs.Failures.{◌>>=◌}
use Rattle.race_top.specs.declared.refusal.Refusal.{Refusal}
use Rattle.race_top.specs.declared.refusal.Refusal.TheVariants as refusals
use Rattle.race_top.specs.CheckRace.{RaceOf}
use Rattle.race_top.specs.Refusal.{or_refusal}

-- the races of some pairs of recorded turns, of which the first has this number
unfoldable pub races_from : Module → Case → ℕ → List (ℕ × ℕ) → Result (List Race) Refusal
races_from code case number [] = Ok []
races_from code case number (pair ∷ pairs) = do
  race ← or_refusal (refusals.Race number) (RaceOf code case pair)
  races ← races_from code case (number + 1) pairs
  Ok (race ∷ races)

-- the races of a case, which are numbered from 1
abbrev pub RacesOf : Module → Case → Result (List Race) Refusal
RacesOf code case = races_from code case 1 case.races
