use Rattle.std.proofs.Common.{◌≡◌, ◌+◌, drop}
use Rattle.ir_items.specs.Segment as spec
use Rattle.ir_items.proofs.segment.rest_len.Given as goal

abbrev pub invariant-loop-node : goal.invariant-loop-node
invariant-loop-node l = record {
  counted : l.len ≡ l.node-index;
  left : l.len + spec.rest_len l.cut l.previous (drop l.node-index l.nodes) ≡ spec.rest_len l.cut l.fn.first l.nodes;
}
