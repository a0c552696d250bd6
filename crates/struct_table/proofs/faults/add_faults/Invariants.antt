use Rattle.std.proofs.Common.{◌≡◌, length}
use Rattle.struct_table.specs.Faults as spec
use Rattle.struct_table.proofs.faults.add_faults.Given as goal

abbrev pub invariant-loop-item : goal.invariant-loop-item
invariant-loop-item l =
    spec.faults_from l.table l.circle l.first l.items ≡ spec.faults_from l.table l.circle l.initial.first l.initial.items

abbrev pub decreases-loop-item : goal.decreases-loop-item
decreases-loop-item l = length l.items
