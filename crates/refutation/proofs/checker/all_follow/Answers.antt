use Rattle.std.proofs.Common.{◌≡◌, ◌∙◌, ◌++◌, ◌+◌, ◌&&◌, true, false, ap, sym, take, drop}
use Rattle.refutation.specs.Accepts.{all_follow, follows}
use Rattle.refutation.specs.Log.{clauses_of, log_step}
use Rattle.refutation.proofs.Checking.{all_follow_at}
use Rattle.refutation.proofs.checker.all_follow.Goals as goal

pub returns-then-not-step_follows : goal.returns-then-not-step_follows
returns-then-not-step_follows c =
    let step = log_step c.in-Some.step.clause.now c.in-Some.step.hints.now in
    let known = c.args.clauses.now ++ take c.loop-at.at (clauses_of c.args.log.now) in
    let is : c.before-in-loop-at.result ≡ known = c.before-in-loop-at.ensures ∙ ap (λ learned. c.args.clauses.now ++ take c.loop-at.at learned) c.clauses-learned.ensures in
    let follows_not : false ≡ follows c.args.vars known step =
    sym c.if-not-step_follows.true ∙ c.step_follows.ensures.value ∙ ap (λ k. follows c.args.vars k step) is in
    ap (λ b. b && all_follow c.args.vars (c.args.clauses.now ++ take (c.loop-at.at + 1) (clauses_of c.args.log.now)) (drop (c.loop-at.at + 1) c.args.log.now)) follows_not
    ∙ sym (all_follow_at c.args.vars c.args.clauses.now c.args.log.now c.loop-at.at step (sym c.in-Some.ensures))
    ∙ c.loop-at.invariant.value

pub loop-at-preserved : goal.loop-at-preserved
loop-at-preserved c =
    let step = log_step c.in-Some.step.clause.now c.in-Some.step.hints.now in
    let known = c.args.clauses.now ++ take c.loop-at.at (clauses_of c.args.log.now) in
    let is : c.before-in-loop-at.result ≡ known = c.before-in-loop-at.ensures ∙ ap (λ learned. c.args.clauses.now ++ take c.loop-at.at learned) c.clauses-learned.ensures in
    let follows_so : true ≡ follows c.args.vars known step =
    sym c.if-not-step_follows.false ∙ c.step_follows.ensures.value ∙ ap (λ k. follows c.args.vars k step) is in
    record {
      value = ap (λ b. b && all_follow c.args.vars (c.args.clauses.now ++ take (c.loop-at.at + 1) (clauses_of c.args.log.now)) (drop (c.loop-at.at + 1) c.args.log.now)) follows_so
          ∙ sym (all_follow_at c.args.vars c.args.clauses.now c.args.log.now c.loop-at.at step (sym c.in-Some.ensures))
          ∙ c.loop-at.invariant.value;
      clear = c.step_follows.ensures.clear;
    }
