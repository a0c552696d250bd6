use Rattle.std.proofs.Common.{◌≡◌}
use Rattle.module_check.specs.Predecessors as spec
use Rattle.module_check.proofs.predecessors.no_predecessors.Given as goal

abbrev pub invariant-loop-block : goal.invariant-loop-block
invariant-loop-block l = l.lists.items ≡ spec.no_predecessors l._block
