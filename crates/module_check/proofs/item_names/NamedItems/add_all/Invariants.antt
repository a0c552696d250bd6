use Rattle.std.proofs.Common.{◌≡◌, length}
use Rattle.module_check.specs.ItemNames as spec
use Rattle.module_check.proofs.item_names.NamedItems.add_all.Given as goal

abbrev pub invariant-loop-item : goal.invariant-loop-item
invariant-loop-item l = spec.names_from l.self l.items ≡ spec.names_from l.initial.self l.initial.items

abbrev pub decreases-loop-item : goal.decreases-loop-item
decreases-loop-item l = length l.items
