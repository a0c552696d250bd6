use Rattle.std.proofs.Common.{◌≡◌}
use Rattle.ir_read.specs.Wants.{advance}
use Rattle.ir_read.proofs.wants.Wants.advance.Given as goal

abbrev pub invariant-loop-rule : goal.invariant-loop-rule
invariant-loop-rule l = advance l.depth l.self l.terminal ≡ advance l.initial.depth l.initial.self l.terminal

abbrev pub decreases-loop-rule : goal.decreases-loop-rule
decreases-loop-rule l = l.depth
