use Rattle.std.proofs.Common.{◌≡◌, length}
use Rattle.module_check.specs.Phis as spec
use Rattle.module_check.proofs.phis.Phis.add_all.Given as goal

abbrev pub invariant-loop-statement : goal.invariant-loop-statement
invariant-loop-statement l = spec.phis_from l.names l.self l.statements ≡ spec.phis_from l.names l.initial.self l.initial.statements

abbrev pub decreases-loop-statement : goal.decreases-loop-statement
decreases-loop-statement l = length l.statements
