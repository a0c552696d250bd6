use Rattle.std.proofs.Common.{◌≡◌}
use Rattle.ir_names.specs.Number.{front_of, lead_of}
use Rattle.ir_names.proofs.number.lead_of.Given as goal

abbrev pub invariant-loop-behind : goal.invariant-loop-behind
invariant-loop-behind l = l.lead ≡ lead_of (front_of l.digits l.behind) (front_of l.others l.behind)

abbrev pub decreases-loop-behind : goal.decreases-loop-behind
decreases-loop-behind l = l.behind
