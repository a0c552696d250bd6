use Rattle.std.proofs.Common.{◌≡◌, [], drop}
use Rattle.ir_layout.specs.declared.extent.Overflow.TheVariants as o
use Rattle.struct_table.specs.Members as spec
use Rattle.struct_table.proofs.members.all_members.Given as goal

abbrev pub invariant-loop-spelled : goal.invariant-loop-spelled
invariant-loop-spelled g l =
    let named = g.S.Structs.extents l.structs o.Wrapping in
    spec.members_from named l.all.items (drop l.spelled-index l.types) ≡ spec.members_from named [] l.types
