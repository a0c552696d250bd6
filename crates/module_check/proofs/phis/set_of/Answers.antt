use Rattle.module_check.proofs.Edges.{set_more}
use Rattle.module_check.proofs.phis.set_of.Goals as goal

pub loop-block-preserved : goal.loop-block-preserved
loop-block-preserved c = λ one.
    set_more c.args.blocks.now c.loop-block.block-index one _ _ _ c.loop-block-test.true (c.in_ok-insert.ensures.updates.0 one) (c.loop-block.invariant one)
