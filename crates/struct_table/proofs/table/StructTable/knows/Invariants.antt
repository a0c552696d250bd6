use Rattle.std.proofs.Common.{◌≡◌, drop}
use Rattle.struct_table.specs.StructTable as spec
use Rattle.struct_table.proofs.table.StructTable.knows.Given as goal

abbrev pub invariant-loop-node : goal.invariant-loop-node
invariant-loop-node l = spec.known_from l.self l.knows (drop l.node-index l.nodes) ≡ spec.knows l.self l.nodes
