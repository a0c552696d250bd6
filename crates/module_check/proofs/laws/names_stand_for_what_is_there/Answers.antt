use Rattle.module_check.proofs.Standing.{items_stand, locals_stand}
use Rattle.module_check.proofs.laws.names_stand_for_what_is_there.Goals as goal

pub returns-clause-items : goal.returns-clause-items
returns-clause-items c = items_stand

pub returns-clause-locals : goal.returns-clause-locals
returns-clause-locals c = locals_stand
