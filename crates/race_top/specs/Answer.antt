-- What the code answers, in terms of what the bytes are due.
use Rattle.std.specs.Prelude.{◌≡◌, Result, Ok, Err}
use Rattle.race_top.specs.declared.refusal.Refusal.{Refusal}
use Rattle.race_top.specs.declared.refusal.Refusal.TheVariants.{TooLong}
use Rattle.race_top.specs.declared.stop.Stop.{Stop}
use Rattle.race_top.specs.declared.stop.Stop.TheVariants as stops

-- what was found, seen by `view`, is what is due, or the refusal is; nothing is said of a failed read and of want of
-- memory
abbrev pub GivesIfRead : {X Y : Type 0} → (X → Y) → Result X Stop → Result Y Refusal → Type 0
GivesIfRead view (Ok found) due = due ≡ Ok (view found)
GivesIfRead view (Err (stops.Refused refusal)) due = due ≡ Err refusal
GivesIfRead view (Err stops.ReadFailed) due = Unit {0}
GivesIfRead view (Err stops.NoMemory) due = Unit {0}

-- the refusal is about what the files hold
abbrev pub IsOfBytes : Refusal → Type 0
IsOfBytes (TooLong file) = ⊥
IsOfBytes refusal = Unit {0}

-- the files were read: no read caused a stop
abbrev pub StopsByBytes : {X : Type 0} → Result X Stop → Type 0
StopsByBytes (Ok found) = Unit {0}
StopsByBytes (Err (stops.Refused refusal)) = IsOfBytes refusal
StopsByBytes (Err stops.ReadFailed) = ⊥
StopsByBytes (Err stops.NoMemory) = Unit {0}
