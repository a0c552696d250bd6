use Rattle.std.proofs.Common.{◌≡◌, length}
use Rattle.module_build.specs.Lines as spec
use Rattle.module_text.proofs.lines.add_items.Given as goal

abbrev pub invariant-loop-item : goal.invariant-loop-item
invariant-loop-item l = spec.items_from l.lines l.items ≡ spec.items_from l.initial.lines l.initial.items

abbrev pub decreases-loop-item : goal.decreases-loop-item
decreases-loop-item l = length l.items
