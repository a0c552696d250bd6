use Rattle.std.proofs.Common.{arith}
use Rattle.concrete_machine.proofs.Actions.{visible-short}
use Rattle.concrete_machine.proofs.operation.run_visible.Goals as goal

pub returns-then-left-more-clause-value : goal.returns-then-left-more-clause-value
returns-then-left-more-clause-value c = λ thread frame more there tops.
    visible-short c.args.setting.now c.args.state.now c.args.number c.args.left.now thread frame more c.args.decided.now
    c.args.placed.now.site c.args.placed.now.inst.now (omega (arith, c.if-left-more.true, c.items_of-more.ensures))
