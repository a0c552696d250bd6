use Rattle.std.proofs.Common.{◌≡◌, drop, ◌||◌, ℕ}
use Rattle.module_check.specs.Phis as spec
use Rattle.std.specs.BTreeSet.{contains}
use Rattle.std.specs.Ordering.{nat_cmp}
use Rattle.module_check.proofs.phis.set_of.Given as goal

abbrev pub invariant-loop-block : goal.invariant-loop-block
invariant-loop-block l =
    (one : ℕ) → (contains nat_cmp l.known one || spec.has (drop l.block-index l.blocks) one) ≡ spec.has l.blocks one
