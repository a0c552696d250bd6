use Rattle.race_verdict.proofs.Classes.{violated-exactly, violation-found}
use Rattle.race_verdict.proofs.laws.violation_comes_first.Goals as goal

pub returns : goal.returns
returns c = record { exactly = violated-exactly; found = violation-found }
