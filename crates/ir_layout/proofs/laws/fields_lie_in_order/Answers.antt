use Rattle.ir_layout.proofs.Layouts.{struct_lies}
use Rattle.ir_layout.proofs.laws.fields_lie_in_order.Goals as goal

pub returns : goal.returns
returns c = λ named packed fields are. struct_lies named are packed fields
