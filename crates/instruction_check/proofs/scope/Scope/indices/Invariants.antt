use Rattle.std.proofs.Common.{◌≡◌, length}
use Rattle.instruction_check.specs.Address as spec
use Rattle.instruction_check.proofs.scope.Scope.indices.Given as goal

abbrev pub invariant-loop-written : goal.invariant-loop-written
invariant-loop-written l =
    spec.indices_from l.self l.indices.items l.phrases ≡ spec.indices_of l.self l.initial.phrases

abbrev pub decreases-loop-written : goal.decreases-loop-written
decreases-loop-written l = length l.phrases
