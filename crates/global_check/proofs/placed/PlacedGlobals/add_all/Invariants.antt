use Rattle.std.proofs.Common.{◌≡◌, length}
use Rattle.global_check.specs.Placed.{placed_from}
use Rattle.global_check.proofs.placed.PlacedGlobals.add_all.Given as goal

abbrev pub invariant-loop-item : goal.invariant-loop-item
invariant-loop-item l = placed_from l.structs l.self l.items ≡ placed_from l.structs l.initial.self l.initial.items

abbrev pub decreases-loop-item : goal.decreases-loop-item
decreases-loop-item l = length l.items
