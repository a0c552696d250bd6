use Rattle.ir_names.proofs.Tables.{no_names}
use Rattle.ir_names.proofs.name_table.NameTable.new.Goals as goal

pub invariant_of-result : goal.invariant_of-result
invariant_of-result c = no_names c.new-2.result c.new.result.items c.new-2.ensures.empty c.new.ensures.items
