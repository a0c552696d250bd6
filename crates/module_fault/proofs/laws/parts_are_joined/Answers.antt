use Rattle.module_fault.proofs.Faults.{joined}
use Rattle.module_fault.proofs.laws.parts_are_joined.Goals as goal

pub returns : goal.returns
returns c = joined
