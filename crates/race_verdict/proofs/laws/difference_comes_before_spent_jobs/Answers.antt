use Rattle.race_verdict.proofs.Classes.{differs-exactly, unresolved-exactly}
use Rattle.race_verdict.proofs.laws.difference_comes_before_spent_jobs.Goals as goal

pub returns : goal.returns
returns c = record { differs = differs-exactly; unresolved = unresolved-exactly }
