use Rattle.race_verdict.proofs.Conditions.{alternates-are_listed, harmless-has_runs}
use Rattle.race_verdict.proofs.HarmlessRuns.{harmless-only}
use Rattle.race_verdict.proofs.laws.harmless_is_the_rest.Goals as goal

pub returns : goal.returns
returns c = record { only = harmless-only; listed = alternates-are_listed; runs = harmless-has_runs }
