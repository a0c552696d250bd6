use Rattle.refutation.proofs.Tested.{clauses-tested}
use Rattle.refutation.proofs.laws.clauses_are_tested.Goals as goal

pub returns : goal.returns
returns c = clauses-tested
