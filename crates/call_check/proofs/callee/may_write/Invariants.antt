use Rattle.std.proofs.Common.{◌≡◌, drop}
use Rattle.call_check.specs.Callee as spec
use Rattle.call_check.proofs.callee.may_write.Given as goal

abbrev pub invariant-loop-node : goal.invariant-loop-node
invariant-loop-node l =
    spec.may_write l.is_variadic (drop l.node-index l.types) l.rest ≡ spec.may_write l.is_variadic l.types l.parameters
