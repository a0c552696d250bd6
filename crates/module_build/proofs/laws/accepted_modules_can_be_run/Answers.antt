use Rattle.module_build.proofs.Runnable.{accepted_runnable}
use Rattle.module_build.proofs.laws.accepted_modules_can_be_run.Goals as goal

pub returns : goal.returns
returns c = accepted_runnable c.segments_are_the_nodes.ensures.whole
