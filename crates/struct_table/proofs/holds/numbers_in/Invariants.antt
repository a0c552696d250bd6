use Rattle.std.proofs.Common.{◌≡◌, drop}
use Rattle.struct_table.specs.Graph as spec
use Rattle.struct_table.proofs.holds.numbers_in.Given as goal

abbrev pub invariant-loop-node : goal.invariant-loop-node
invariant-loop-node l =
    spec.numbers_from l.names l.numbers.items (drop l.node-index l.nodes) ≡ spec.numbers_in l.names l.nodes
