use Rattle.std.proofs.Common.{◌≡◌, drop}
use Rattle.module_check.specs.Predecessors as spec
use Rattle.module_check.proofs.predecessors.lead_all.Given as goal

abbrev pub invariant-loop-target : goal.invariant-loop-target
invariant-loop-target l =
    spec.with_targets l.from l.lists (drop l.target-index l.targets) ≡ spec.with_targets l.from l.initial.lists l.targets
