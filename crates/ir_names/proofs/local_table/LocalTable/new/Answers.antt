use Rattle.ir_names.proofs.LocalTables.{no_locals}
use Rattle.ir_names.proofs.local_table.LocalTable.new.Goals as goal

pub invariant_of-result : goal.invariant_of-result
invariant_of-result c =
    no_locals c.new.result.items c.new-2.result c.new-3.result c.new-4.result.items c.new-5.result c.zero.result
    c.new.ensures.items c.new-2.ensures.empty c.new-3.ensures c.new-4.ensures.items c.new-5.ensures.empty c.zero.ensures
