use Rattle.std.proofs.Common.{◌≡◌, length}
use Rattle.module_check.specs.Signature as spec
use Rattle.module_check.proofs.signature.taken.Given as goal

abbrev pub invariant-loop-parameter : goal.invariant-loop-parameter
invariant-loop-parameter l = spec.taken_from l.kinds.items l.parameters ≡ spec.taken l.initial.parameters

abbrev pub decreases-loop-parameter : goal.decreases-loop-parameter
decreases-loop-parameter l = length l.parameters
