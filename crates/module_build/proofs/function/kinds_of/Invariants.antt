use Rattle.std.proofs.Common.{◌≡◌, [], length}
use Rattle.module_build.specs.Function.{kinds_from}
use Rattle.module_build.proofs.function.kinds_of.Given as goal

abbrev pub invariant-loop-parameter : goal.invariant-loop-parameter
invariant-loop-parameter l = kinds_from l.kinds.items l.parameters ≡ kinds_from [] l.initial.parameters

abbrev pub decreases-loop-parameter : goal.decreases-loop-parameter
decreases-loop-parameter l = length l.parameters
