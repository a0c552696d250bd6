use Rattle.std.proofs.Common.{◌≡◌, drop}
use Rattle.struct_table.specs.Rounds as spec
use Rattle.struct_table.proofs.rounds.are_ready.Given as goal

abbrev pub invariant-loop-node : goal.invariant-loop-node
invariant-loop-node l =
    spec.ready_from l.names l.extents l.ready (drop l.node-index l.nodes) ≡ spec.are_ready l.names l.extents l.nodes
