use Rattle.std.proofs.Common.{◌≡◌, length}
use Rattle.instruction_check.specs.Expressions as spec
use Rattle.instruction_check.proofs.expressions.literal_indices.Given as goal

abbrev pub invariant-loop-written : goal.invariant-loop-written
invariant-loop-written l =
    spec.literal_indices_from l.indices.items l.phrases ≡ spec.literal_indices l.initial.phrases

abbrev pub decreases-loop-written : goal.decreases-loop-written
decreases-loop-written l = length l.phrases
