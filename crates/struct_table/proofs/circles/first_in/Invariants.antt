use Rattle.std.proofs.Common.{◌≡◌}
use Rattle.struct_table.specs.Graph as spec
use Rattle.struct_table.proofs.circles.first_in.Given as goal

abbrev pub invariant-loop-number : goal.invariant-loop-number
invariant-loop-number l = l.circle ≡ spec.circle_below l.holds l.number
