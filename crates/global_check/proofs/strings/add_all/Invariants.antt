use Rattle.std.proofs.Common.{◌≡◌, length}
use Rattle.global_check.specs.Strings.{strings_from}
use Rattle.global_check.proofs.strings.add_all.Given as goal

abbrev pub invariant-loop-item : goal.invariant-loop-item
invariant-loop-item l = strings_from l.strings l.items ≡ strings_from l.initial.strings l.initial.items

abbrev pub decreases-loop-item : goal.decreases-loop-item
decreases-loop-item l = length l.items
