use Rattle.struct_table.proofs.Whole.{names_have_types}
use Rattle.struct_table.proofs.laws.names_have_types.Goals as goal

pub returns : goal.returns
returns c = names_have_types
