use Rattle.std.proofs.Common.{sym, ◌∙◌}
use Rattle.turn_policy.proofs.Equality.{same_policy-last, same_policy-modes, same_policy-places}
use Rattle.turn_policy.proofs.policy.Policy.same.Goals as goal
use Rattle.turn_policy.proofs.policy.Policy.same.Goals.{then-same_mode, else-same_mode}

pub returns-then-same_place : goal.returns-then-same_place
returns-then-same_place c =
    rw (← c.self.view_is, ← c.other.view_is)
    (elim c.if-same_mode.branch [
      | then-same_mode w ↦
          c.eq-same_last.ensures ∙ same_policy-last _ _ (sym c.eq-same_mode.ensures ∙ w.if-same_mode.true) cc
      | else-same_mode w ↦ absurd cc
    ])

pub returns-else-same_place : goal.returns-else-same_place
returns-else-same_place c =
    rw (← c.self.view_is, ← c.other.view_is)
    (elim c.if-same_mode.branch [
      | then-same_mode w ↦ same_policy-places _ _ _ (cc) (sym c.eq-same_mode.ensures ∙ w.if-same_mode.true) cc
      | else-same_mode w ↦ same_policy-modes _ _ _ (cc) (sym c.eq-same_mode.ensures ∙ w.if-same_mode.false)
    ])
