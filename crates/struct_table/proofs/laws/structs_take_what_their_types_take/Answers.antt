use Rattle.struct_table.proofs.Settledness.{structs_take}
use Rattle.struct_table.proofs.laws.structs_take_what_their_types_take.Goals as goal

pub returns : goal.returns
returns c = structs_take
