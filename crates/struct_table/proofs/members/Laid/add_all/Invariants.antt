use Rattle.std.proofs.Common.{◌≡◌, length}
use Rattle.ir_layout.specs.declared.extent.Overflow.TheVariants as o
use Rattle.struct_table.specs.Members as spec
use Rattle.struct_table.proofs.members.Laid.add_all.Given as goal

abbrev pub invariant-loop-nodes : goal.invariant-loop-nodes
invariant-loop-nodes g l =
    let named = g.S.Structs.extents l.structs o.Wrapping in
    spec.laid_from named l.packed l.self l.fields ≡ spec.laid_from named l.packed l.initial.self l.initial.fields

abbrev pub decreases-loop-nodes : goal.decreases-loop-nodes
decreases-loop-nodes g l = length l.fields
