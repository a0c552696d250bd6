use Rattle.std.proofs.Common.{◌≡◌, ◌+◌, false}
use Rattle.ir_layout.specs.Extent.{kept}
use Rattle.struct_table.specs.Settling as spec
use Rattle.struct_table.proofs.Growth.{IsClosed, IsGrown, still}
use Rattle.struct_table.proofs.settling.settled.Given as goal

abbrev pub invariant-loop-number : goal.invariant-loop-number
invariant-loop-number l = IsGrown (kept l.overflow) l.names l.types l.known

abbrev pub invariant-loop-more : goal.invariant-loop-more
invariant-loop-more l = record {
  grown : IsGrown (kept l.overflow) l.names l.types l.known;
  closed : l.more ≡ false → IsClosed (kept l.overflow) l.names l.types l.known;
}

abbrev pub decreases-loop-more : goal.decreases-loop-more
decreases-loop-more l = spec.open_count l.known + still l.more
