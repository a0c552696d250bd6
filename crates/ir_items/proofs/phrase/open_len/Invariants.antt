use Rattle.std.proofs.Common.{◌≡◌, ◌+◌, ◌≤◌, drop}
use Rattle.ir_items.specs.Phrase as spec
use Rattle.ir_items.proofs.phrase.open_len.Given as goal

abbrev pub invariant-loop-node : goal.invariant-loop-node
invariant-loop-node l = record {
  counted : l.len ≡ l.node-index;
  bounded : l.depth ≤ l.node-index + 1;
  left : l.len + spec.open_len l.depth (drop l.node-index l.nodes) ≡ spec.open_len (spec.depth_behind 0 l.fn.first) l.nodes;
}
