use Rattle.external_calls.specs.Prototype.{all, by_name}
use Rattle.external_calls.proofs.Names.{found_has_name}
use Rattle.external_calls.proofs.laws.names_are_apart.Goals as goal

pub returns-clause-alone : goal.returns-clause-alone
unfolding by_name
returns-clause-alone c call name = found_has_name all name call
