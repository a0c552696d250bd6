use Rattle.std.proofs.Common.{◌≡◌}
use Rattle.global_check.specs.Image as spec
use Rattle.global_check.proofs.image.zeros.Given as goal

abbrev pub invariant-loop : goal.invariant-loop
invariant-loop l = l.bytes.items ≡ spec.zeros l.counter
