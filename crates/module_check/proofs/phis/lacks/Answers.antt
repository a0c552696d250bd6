use Rattle.std.proofs.Common.{◌∙◌}
use Rattle.module_check.proofs.Edges.{lacks_here, lacks_none_here}
use Rattle.module_check.proofs.phis.lacks.Goals as goal

pub returns-then-not-contains : goal.returns-then-not-contains
returns-then-not-contains c =
    lacks_here c.args.blocks.now c.args.edges.now c.loop-block.block-index c.contains.result _ c.loop-block-test.true (c.contains.ensures ∙ c.in_ok-known.ensures _) c.if-not-contains.true c.loop-block.invariant

pub loop-block-preserved : goal.loop-block-preserved
loop-block-preserved c =
    lacks_none_here c.args.blocks.now c.args.edges.now c.loop-block.block-index c.contains.result _ c.loop-block-test.true (c.contains.ensures ∙ c.in_ok-known.ensures _) c.if-not-contains.false c.loop-block.invariant
