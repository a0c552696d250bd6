use Rattle.refutation.proofs.Soundness.{implied-holds}
use Rattle.refutation.proofs.laws.implied_holds.Goals as goal

pub returns : goal.returns
returns c = implied-holds
