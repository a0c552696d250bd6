use Rattle.ir_read.proofs.Faults as faults
use Rattle.ir_read.proofs.laws.front_decides.Goals as goal

pub returns : goal.returns
returns c = faults.front_decides
