use Rattle.std.proofs.Common.{◌≡◌, ℕ, false, slice_index, drop}
use Rattle.refutation.specs.Accepts.{hints_mention, reaches_conflict}
use Rattle.refutation.proofs.checker.conflicts.Given as goal

abbrev pub invariant-loop-i : goal.invariant-loop-i
invariant-loop-i l = record {
  value : reaches_conflict l.known (drop l.i l.hints) l.marks ≡ reaches_conflict l.known l.hints l.fn.marks;
  others : (n : ℕ) → hints_mention l.known n l.hints ≡ false → slice_index l.marks n ≡ slice_index l.fn.marks n;
}
