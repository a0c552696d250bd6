use Rattle.std.proofs.Common.{refl}
use Rattle.turn_policy.proofs.Turns.{among-free}
use Rattle.turn_policy.proofs.follow.is_free.Goals as goal

pub returns-then-not-is_held : goal.returns-then-not-is_held
returns-then-not-is_held c =
    rw (among-free c.args.held c.args.enabled.now c.args.thread, ← c.is_held.ensures, c.if-not-is_held.true)
    c.contains.ensures.value

pub returns-else-not-is_held : goal.returns-else-not-is_held
returns-else-not-is_held c =
    rw (among-free c.args.held c.args.enabled.now c.args.thread, ← c.is_held.ensures, c.if-not-is_held.false) refl
