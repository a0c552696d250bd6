use Rattle.std.proofs.Common.{◌≡◌}
use Rattle.ir_layout.specs.Extent.{kept}
use Rattle.struct_table.specs.Settling as spec
use Rattle.struct_table.proofs.settling.settle_all.Given as goal

abbrev pub invariant-loop-number : goal.invariant-loop-number
invariant-loop-number l =
    l.known ≡ spec.settle_below (kept l.overflow) l.names l.types l.initial.known l.number
