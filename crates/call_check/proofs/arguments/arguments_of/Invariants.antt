use Rattle.std.proofs.Common.{◌≡◌, length}
use Rattle.call_check.specs.Arguments as spec
use Rattle.call_check.proofs.arguments.arguments_of.Given as goal

abbrev pub invariant-loop-written : goal.invariant-loop-written
invariant-loop-written l =
    spec.arguments_from l.scope l.is_open l.rest (record { operands = l.operands.items; held = l.held; cause = l.cause }) l.phrases
    ≡ spec.arguments_of l.scope l.is_open l.parameters l.initial.phrases

abbrev pub decreases-loop-written : goal.decreases-loop-written
decreases-loop-written l = length l.phrases
