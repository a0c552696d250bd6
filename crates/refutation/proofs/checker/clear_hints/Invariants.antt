use Rattle.std.proofs.Common.{◌≡◌, ℕ, if◌then◌else◌, slice_index, take}
use Rattle.refutation.specs.Accepts.{hints_mention}
use Rattle.refutation.proofs.checker.clear_hints.Given as goal

abbrev pub invariant-loop-hint : goal.invariant-loop-hint
invariant-loop-hint l = (n : ℕ) → slice_index l.marks n
    ≡ (if hints_mention l.known n (take l.hint-index l.hints) then 0 else slice_index l.fn.marks n)
