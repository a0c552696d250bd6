use Rattle.std.proofs.Common.{◌≡◌, length}
use Rattle.module_build.specs.Body.{built_from}
use Rattle.module_build.proofs.body.BuiltBody.add_all.Given as goal

abbrev pub invariant-loop-statement : goal.invariant-loop-statement
invariant-loop-statement l = built_from l.scope l.self l.statements ≡ built_from l.scope l.initial.self l.initial.statements

abbrev pub decreases-loop-statement : goal.decreases-loop-statement
decreases-loop-statement l = length l.statements
