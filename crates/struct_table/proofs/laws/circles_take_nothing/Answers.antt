use Rattle.struct_table.proofs.Settledness.{circles_take}
use Rattle.struct_table.proofs.laws.circles_take_nothing.Goals as goal

pub returns : goal.returns
returns c = circles_take
