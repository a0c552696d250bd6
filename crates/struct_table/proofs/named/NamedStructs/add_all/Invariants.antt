use Rattle.std.proofs.Common.{◌≡◌, length}
use Rattle.struct_table.specs.Named as spec
use Rattle.struct_table.proofs.named.NamedStructs.add_all.Given as goal

abbrev pub invariant-loop-item : goal.invariant-loop-item
invariant-loop-item l = spec.named_from l.self l.items ≡ spec.named_from l.initial.self l.initial.items

abbrev pub decreases-loop-item : goal.decreases-loop-item
decreases-loop-item l = length l.items
