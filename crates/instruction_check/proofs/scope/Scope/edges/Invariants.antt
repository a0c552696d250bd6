use Rattle.std.proofs.Common.{◌≡◌, length}
use Rattle.instruction_check.specs.Control as spec
use Rattle.instruction_check.proofs.scope.Scope.edges.Given as goal

abbrev pub invariant-loop-value : goal.invariant-loop-value
invariant-loop-value l =
    spec.edges_from l.self l.kind (record { value = l.edges.items; cause = l.cause }) l.phrases
    ≡ spec.edges_of l.self l.kind l.initial.phrases

abbrev pub decreases-loop-value : goal.decreases-loop-value
decreases-loop-value l = length l.phrases
