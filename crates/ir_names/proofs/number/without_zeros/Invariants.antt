use Rattle.std.proofs.Common.{◌≡◌, length}
use Rattle.ir_names.specs.Number.{value_of}
use Rattle.ir_names.proofs.number.without_zeros.Given as goal

abbrev pub invariant-loop-rest : goal.invariant-loop-rest
invariant-loop-rest l = value_of l.rest ≡ value_of l.digits

abbrev pub decreases-loop-rest : goal.decreases-loop-rest
decreases-loop-rest l = length l.rest
