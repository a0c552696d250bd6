use Rattle.ir_layout.proofs.Layouts.{kept_layout}
use Rattle.ir_layout.proofs.laws.kept_sizes_are_enough.Goals as goal

pub returns : goal.returns
returns c = λ overflow named shape are. kept_layout overflow named are shape
