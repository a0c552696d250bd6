use Rattle.global_check.proofs.Places.{those_placed}
use Rattle.global_check.proofs.laws.globals_lie_where_placed.Goals as goal

pub returns : goal.returns
returns c = those_placed
