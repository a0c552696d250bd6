use Rattle.ir_layout.proofs.Walks.{walked_whole}
use Rattle.ir_layout.proofs.laws.walk_gives_layout.Goals as goal

pub returns : goal.returns
returns c = λ keep named shape nodes spells. walked_whole keep named shape nodes spells
