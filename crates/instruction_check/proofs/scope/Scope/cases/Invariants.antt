use Rattle.std.proofs.Common.{◌≡◌, length}
use Rattle.instruction_check.specs.Control as spec
use Rattle.instruction_check.proofs.scope.Scope.cases.Given as goal

abbrev pub invariant-loop-written : goal.invariant-loop-written
invariant-loop-written l =
    spec.cases_from l.self l.kind (record { value = l.cases.items; cause = l.cause }) l.phrases
    ≡ spec.cases_of l.self l.kind l.initial.phrases

abbrev pub decreases-loop-written : goal.decreases-loop-written
decreases-loop-written l = length l.phrases
