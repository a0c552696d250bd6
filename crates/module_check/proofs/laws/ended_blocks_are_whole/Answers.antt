use Rattle.module_check.proofs.Phases.{whole}
use Rattle.module_check.proofs.laws.ended_blocks_are_whole.Goals as goal

pub returns : goal.returns
returns c = whole
