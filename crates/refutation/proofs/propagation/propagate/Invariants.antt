use Rattle.std.proofs.Common.{◌≡◌, take}
use Rattle.refutation.specs.Marks.{propagation_of, open_literals}
use Rattle.refutation.proofs.propagation.propagate.Given as goal

abbrev pub invariant-loop-literal : goal.invariant-loop-literal
invariant-loop-literal l = l.found ≡ propagation_of l.marks (open_literals l.marks (take l.literal-index l.clause))
