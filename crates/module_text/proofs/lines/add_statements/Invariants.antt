use Rattle.std.proofs.Common.{◌≡◌, length}
use Rattle.module_build.specs.Lines as spec
use Rattle.module_text.proofs.lines.add_statements.Given as goal

abbrev pub invariant-loop-statement : goal.invariant-loop-statement
invariant-loop-statement l = spec.statements_from l.lines l.statements ≡ spec.statements_from l.initial.lines l.initial.statements

abbrev pub decreases-loop-statement : goal.decreases-loop-statement
decreases-loop-statement l = length l.statements
