use Rattle.std.proofs.Common.{◌≡◌, take}
use Rattle.std.specs.Prelude.{count_by}
use Rattle.refutation.specs.declared.proof.Proof.{Proof}
use Rattle.refutation.specs.Accepts.{accepted}
use Rattle.proof_counts.proofs.count_accepted.Given as goal

abbrev pub invariant-loop-proof : goal.invariant-loop-proof
invariant-loop-proof l =
    l.count ≡ count_by (λ (proof : Proof). accepted proof.formula.vars proof.formula.clauses proof.log) (take l.proof-index l.proofs)
