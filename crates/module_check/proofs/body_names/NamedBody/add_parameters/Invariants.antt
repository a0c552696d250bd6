use Rattle.std.proofs.Common.{◌≡◌, length}
use Rattle.module_check.specs.BodyNames as spec
use Rattle.module_check.proofs.body_names.NamedBody.add_parameters.Given as goal

abbrev pub invariant-loop-parameter : goal.invariant-loop-parameter
invariant-loop-parameter l = spec.with_parameters l.line l.self l.parameters ≡ spec.with_parameters l.line l.initial.self l.initial.parameters

abbrev pub decreases-loop-parameter : goal.decreases-loop-parameter
decreases-loop-parameter l = length l.parameters
