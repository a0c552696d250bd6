use Rattle.std.proofs.Common.{◌≡◌, length}
use Rattle.global_check.specs.Filling.{filled_from}
use Rattle.global_check.proofs.filling.Filling.fill.Given as goal

abbrev pub invariant-loop-phrase : goal.invariant-loop-phrase
invariant-loop-phrase l = filled_from l.scope l.self l.phrases ≡ filled_from l.scope l.initial.self l.initial.phrases

abbrev pub decreases-loop-phrase : goal.decreases-loop-phrase
decreases-loop-phrase l = length l.phrases
