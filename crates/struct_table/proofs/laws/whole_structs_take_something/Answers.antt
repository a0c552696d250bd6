use Rattle.struct_table.proofs.Whole.{whole_takes}
use Rattle.struct_table.proofs.laws.whole_structs_take_something.Goals as goal

pub returns : goal.returns
returns c = whole_takes
