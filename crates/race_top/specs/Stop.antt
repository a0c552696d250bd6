-- Which stop each failure becomes.
use Rattle.rc_base.specs.declared.failures.Failure.{Failure}
use Rattle.rc_base.specs.declared.failures.Failure.TheVariants as failures
use Rattle.race_top.specs.declared.refusal.Refusal.{Refusal}
use Rattle.race_top.specs.declared.stop.Stop.{Stop}
use Rattle.race_top.specs.declared.stop.Stop.TheVariants.{Refused, NoMemory}

-- by the refusal that an error is
abbrev pub stop_of : {E : Type 0} → (E → Refusal) → Failure E → Stop
stop_of refusal (failures.Refused error) = Refused (refusal error)
stop_of refusal failures.NoMemory = NoMemory
