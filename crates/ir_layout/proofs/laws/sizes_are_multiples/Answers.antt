use Rattle.ir_layout.proofs.Layouts.{layout_extent}
use Rattle.ir_layout.proofs.laws.sizes_are_multiples.Goals as goal

pub returns : goal.returns
returns c = λ named shape are. layout_extent named are shape
