use Rattle.std.proofs.Common.{◌≡◌, length}
use Rattle.module_check.specs.BodyNames as spec
use Rattle.module_check.proofs.body_names.NamedBody.add_statements.Given as goal

abbrev pub invariant-loop-statement : goal.invariant-loop-statement
invariant-loop-statement l =
    spec.with_statements l.names l.self l.statements ≡ spec.with_statements l.names l.initial.self l.initial.statements

abbrev pub decreases-loop-statement : goal.decreases-loop-statement
decreases-loop-statement l = length l.statements
