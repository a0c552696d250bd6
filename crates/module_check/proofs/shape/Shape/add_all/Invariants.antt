use Rattle.std.proofs.Common.{◌≡◌, length}
use Rattle.module_check.specs.Shape as spec
use Rattle.module_check.proofs.shape.Shape.add_all.Given as goal

abbrev pub invariant-loop-statement : goal.invariant-loop-statement
invariant-loop-statement l = spec.shape_from l.self l.statements ≡ spec.shape_from l.initial.self l.initial.statements

abbrev pub decreases-loop-statement : goal.decreases-loop-statement
decreases-loop-statement l = length l.statements
