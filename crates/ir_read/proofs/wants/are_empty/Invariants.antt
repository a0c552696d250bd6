use Rattle.std.proofs.Common.{◌≡◌, ◌≤◌, length, reverse, take}
use Rattle.std.specs.List.{flat_map}
use Rattle.ir_read.proofs.wants.are_empty.Given as goal

abbrev pub invariant-loop-count : goal.invariant-loop-count
invariant-loop-count l =
    (flat_map (λ row. row.now) (reverse (take l.count l.rows)) ≡ flat_map (λ row. row.now) (reverse l.rows))
    × (l.count ≤ length l.rows)

abbrev pub decreases-loop-count : goal.decreases-loop-count
decreases-loop-count l = l.count
