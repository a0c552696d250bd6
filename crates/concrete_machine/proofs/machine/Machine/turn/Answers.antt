use Rattle.std.proofs.Common.{arith}
use Rattle.concrete_machine.proofs.Cost.{turn-costs}
use Rattle.concrete_machine.proofs.machine.Machine.turn.Goals as goal

pub overflow_sub-before : goal.overflow_sub-before
overflow_sub-before g c = turn-costs _ _ _ _ _ _ _ _ c.in_ok-end.ensures.value

pub returns-clause-cost : goal.returns-clause-cost
returns-clause-cost g c =
    let least = turn-costs _ _ _ _ _ _ _ _ c.in_ok-end.ensures.value in
    omega (arith, least, c.count.ensures)

pub returns-clause-falls : goal.returns-clause-falls
returns-clause-falls g c = turn-costs _ _ _ _ _ _ _ _ c.in_ok-end.ensures.value
