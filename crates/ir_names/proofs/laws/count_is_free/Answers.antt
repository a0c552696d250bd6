use Rattle.ir_names.proofs.LocalTables.{none_above}
use Rattle.ir_names.proofs.laws.count_is_free.Goals as goal

pub returns : goal.returns
returns c = none_above
