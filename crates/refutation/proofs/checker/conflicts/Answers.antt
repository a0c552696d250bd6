use Rattle.std.proofs.Common.{◌≡◌, ◌∙◌, sym, ap, get_or, rules, w32}
use Rattle.std.proofs.lemmas.Int.{to_z-of_z}
use Rattle.refutation.specs.Accepts.{continued, reaches_conflict}
use Rattle.refutation.specs.Marks.{made_true}
use Rattle.refutation.proofs.Checking.{reaches_at, reaches_by_conflict, others-kept}
use Rattle.refutation.proofs.checker.conflicts.Goals as goal

pub returns-in-Conflict-clause-value : goal.returns-in-Conflict-clause-value
returns-in-Conflict-clause-value c =
    reaches_by_conflict c.args.known.now c.args.hints.now c.loop-i.i c.loop-i.marks c.loop-i-test.true (sym c.propagate_hint.ensures ∙ c.in-Conflict.is)
    ∙ c.loop-i.invariant.value

pub loop-i-preserved : goal.loop-i-preserved
loop-i-preserved c =
    let e = sym c.propagate_hint.ensures ∙ c.in-Implies.is in
    let m : c.make_true.new.marks ≡ made_true c.in-Implies.literal c.loop-i.marks = c.make_true.ensures ∙ ap (λ z. made_true z c.loop-i.marks) (to_z-of_z w32 c.in-Implies.literal (search rules)) in
    record {
      value = ap (reaches_conflict c.args.known.now _) m
          ∙ sym (reaches_at c.args.known.now c.args.hints.now c.loop-i.i c.loop-i.marks c.loop-i-test.true
          ∙ ap (continued (reaches_conflict c.args.known.now _) _ c.loop-i.marks) e)
          ∙ c.loop-i.invariant.value;
      others = λ n none. ap (λ ms. get_or ms n 0) m
          ∙ others-kept c.args.known.now c.args.hints.now c.loop-i.i c.loop-i.marks c.in-Implies.literal n c.loop-i-test.true e none
          ∙ c.loop-i.invariant.others n none;
    }
