use Rattle.module_build.proofs.Whole.{accepted_whole}
use Rattle.module_build.proofs.laws.blocks_are_whole.Goals as goal

pub returns : goal.returns
returns c = accepted_whole
