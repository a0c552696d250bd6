use Rattle.std.proofs.Common.{◌≡◌, ◌≤◌, ◌+◌, drop}
use Rattle.ir_read.specs.Shape.{length_at}
use Rattle.ir_read.proofs.raw_type.type_length.Given as goal

-- the nodes that were counted, and those that are left
abbrev pub invariant-loop-node : goal.invariant-loop-node
invariant-loop-node l = record {
  counted : l.count ≡ l.node-index;
  open_at_most : l.depth ≤ l.node-index;
  left : l.count + length_at l.depth (drop l.node-index l.nodes) ≡ length_at 0 l.nodes;
}
