use Rattle.std.proofs.Common.{◌≡◌, drop}
use Rattle.module_check.specs.Phis as spec
use Rattle.module_check.proofs.phis.lacks.Given as goal

abbrev pub invariant-loop-block : goal.invariant-loop-block
invariant-loop-block l = spec.lacks (drop l.block-index l.blocks) l.edges ≡ spec.lacks l.blocks l.edges
