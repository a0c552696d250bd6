use Rattle.std.proofs.Common.{◌≡◌, length}
use Rattle.global_check.specs.Globals.{globals_from}
use Rattle.global_check.proofs.globals.CheckedGlobals.add_all.Given as goal

abbrev pub invariant-loop-item : goal.invariant-loop-item
invariant-loop-item l =
    globals_from l.scope l.placed l.self l.items ≡ globals_from l.scope l.placed l.initial.self l.initial.items

abbrev pub decreases-loop-item : goal.decreases-loop-item
decreases-loop-item l = length l.items
