use Rattle.std.proofs.Common.{◌≡◌, drop}
use Rattle.struct_table.specs.Graph as spec
use Rattle.struct_table.proofs.holds.holds_of.Given as goal

abbrev pub invariant-loop-spelled : goal.invariant-loop-spelled
invariant-loop-spelled l =
    spec.holds_from l.names l.holds.items (drop l.spelled-index l.types) ≡ spec.holds_of l.names l.types
