use Rattle.race_verdict.proofs.JobOrder.{counted-is_least, first-is_least}
use Rattle.race_verdict.proofs.laws.first_is_least.Goals as goal

pub returns : goal.returns
returns c = record { first = first-is_least; counted = counted-is_least }
