use Rattle.std.proofs.Common.{◌≡◌, drop}
use Rattle.module_check.specs.Predecessors as spec
use Rattle.module_check.proofs.predecessors.named_blocks.Given as goal

abbrev pub invariant-loop-node : goal.invariant-loop-node
invariant-loop-node l =
    spec.blocks_from l.names l.blocks.items (drop l.node-index l.nodes) ≡ spec.named_blocks l.names l.nodes
