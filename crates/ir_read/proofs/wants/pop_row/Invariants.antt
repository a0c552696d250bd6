use Rattle.std.proofs.Common.{◌≡◌, length, reverse}
use Rattle.std.specs.List.{flat_map}
use Rattle.ir_read.proofs.wants.pop_row.Given as goal

abbrev pub invariant-loop-row : goal.invariant-loop-row
invariant-loop-row l =
    flat_map (λ row. row.now) (reverse l.rows.items) ≡ flat_map (λ row. row.now) (reverse l.initial.rows.items)

abbrev pub decreases-loop-row : goal.decreases-loop-row
decreases-loop-row l = length l.rows.items
