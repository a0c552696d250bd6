use Rattle.race_verdict.proofs.Classes.{single-exactly}
use Rattle.race_verdict.proofs.Conditions.{single-of_path}
use Rattle.race_verdict.proofs.laws.single_ordering_is_of_recorded_path.Goals as goal

pub returns : goal.returns
returns c = record { exactly = single-exactly; path = single-of_path }
