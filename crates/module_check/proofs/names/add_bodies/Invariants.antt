use Rattle.std.proofs.Common.{◌≡◌, length}
use Rattle.module_check.specs.Names as spec
use Rattle.module_check.proofs.names.add_bodies.Given as goal

abbrev pub invariant-loop-item : goal.invariant-loop-item
invariant-loop-item l = spec.bodies_from l.names l.first l.items ≡ spec.bodies_from l.names l.initial.first l.initial.items

abbrev pub decreases-loop-item : goal.decreases-loop-item
decreases-loop-item l = length l.items
