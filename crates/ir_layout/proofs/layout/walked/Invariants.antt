use Rattle.std.proofs.Common.{◌≡◌, drop}
use Rattle.ir_layout.specs.Extent.{kept}
use Rattle.ir_layout.specs.Walk.{begun, walked}
use Rattle.ir_layout.proofs.layout.walked.Given as goal

-- the rest of the way ends as the whole one
abbrev pub invariant-loop-node : goal.invariant-loop-node
invariant-loop-node g l =
    let keep = kept l.overflow in
    let named = g.S.Structs.extents l.structs l.overflow in
    walked keep named (drop l.node-index l.nodes) l.walk ≡ walked keep named l.nodes begun
