use Rattle.global_check.proofs.Apart.{globals_apart}
use Rattle.global_check.proofs.laws.globals_lie_apart.Goals as goal

pub returns : goal.returns
returns c = globals_apart
