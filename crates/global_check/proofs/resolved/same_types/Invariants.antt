use Rattle.std.proofs.Common.{◌≡◌, drop}
use Rattle.global_check.specs.Resolved as spec
use Rattle.global_check.proofs.resolved.same_types.Given as goal

abbrev pub invariant-loop-one : goal.invariant-loop-one
invariant-loop-one l = spec.same_from l.same (drop l.one-index l.ones) l.rest ≡ spec.same_types l.ones l.others
