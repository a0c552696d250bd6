use Rattle.std.proofs.Common.{◌≡◌, ◌+◌, ◌≤◌, drop}
use Rattle.struct_table.specs.Settling as spec
use Rattle.struct_table.proofs.settling.open_count.Given as goal

abbrev pub invariant-loop-extent : goal.invariant-loop-extent
invariant-loop-extent l = record {
  within : l.count ≤ l.extent-index;
  counted : l.count + spec.open_count (drop l.extent-index l.known) ≡ spec.open_count l.known;
}
