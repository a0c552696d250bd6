use Rattle.std.proofs.Common.{sym, ap, ◌∙◌}
use Rattle.machine_model.specs.declared.mode.Mode.TheVariants.{After}
use Rattle.turn_policy.proofs.Choices.{choose-before, choose-hold, choose-released, choose-after}
use Rattle.turn_policy.proofs.policy.Policy.next_choice.Goals as goal

pub returns-in-Before-clause-choice : goal.returns-in-Before-clause-choice
returns-in-Before-clause-choice c =
    let mode = ap (λ listed. listed.policy.mode) (sym c.self.view_is) ∙ c.in-Before.is in
    rw (choose-before c.args.self.now.listed c.args.self.now.policy c.args.enabled.now mode) c.follow_without.ensures.choice

pub returns-in-Hold-clause-choice : goal.returns-in-Hold-clause-choice
returns-in-Hold-clause-choice c =
    let mode = ap (λ listed. listed.policy.mode) (sym c.self.view_is) ∙ c.in-Hold.is in
    rw (choose-hold c.args.self.now.listed c.args.self.now.policy c.args.enabled.now c.in-Hold.thread mode)
    c.follow_without-in-Hold.ensures.choice

pub returns-then-chosen-clause-choice : goal.returns-then-chosen-clause-choice
returns-then-chosen-clause-choice c =
    let mode = ap (λ listed. listed.policy.mode) (sym c.self.view_is) ∙ c.in-After.is
    ∙ ap (After c.in-After.thread) c.if-chosen.true in
    rw (choose-after c.args.self.now.listed c.args.self.now.policy c.args.enabled.now c.in-After.thread mode)
    c.follow_without-then-chosen.ensures.choice

pub returns-else-chosen-clause-choice : goal.returns-else-chosen-clause-choice
returns-else-chosen-clause-choice c =
    let mode = ap (λ listed. listed.policy.mode) (sym c.self.view_is) ∙ c.in-After.is
    ∙ ap (After c.in-After.thread) c.if-chosen.false in
    rw (choose-released c.args.self.now.listed c.args.self.now.policy c.args.enabled.now c.in-After.thread mode)
    c.release.ensures.choice
