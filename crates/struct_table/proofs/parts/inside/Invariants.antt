use Rattle.std.proofs.Common.{◌≡◌}
use Rattle.struct_table.specs.Parts as spec
use Rattle.struct_table.proofs.parts.inside.Given as goal

abbrev pub invariant-loop-by : goal.invariant-loop-by
invariant-loop-by l = l.all.items ≡ spec.inside_below l.parts l.holds l.by
