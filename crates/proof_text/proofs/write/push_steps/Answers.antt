use Rattle.std.proofs.Common.{◌∙◌, ap, sym}
use Rattle.refutation.specs.Log.{log_step}
use Rattle.proof_text.specs.Text.{step_line}
use Rattle.proof_text.proofs.Written.{row-kept, row-pushed}
use Rattle.proof_text.proofs.write.push_steps.Goals.{in-Some+in_ok-push_step, in_default}
use Rattle.proof_text.proofs.write.push_steps.Goals as goal

pub loop-at-preserved : goal.loop-at-preserved
loop-at-preserved c = elim c.match-get.branch [
  | in-Some+in_ok-push_step w ↦ ap (λ text. text.items) w.text-is
      ∙ row-pushed step_line c.args.log.now c.loop-at.at (log_step w.in-Some.step.clause.now w.in-Some.step.hints.now) c.args.text.now.items c.loop-at.text.items w.push_step.new.text.items
      (sym w.in-Some.ensures) c.loop-at.invariant w.in_ok-push_step.ensures
  | in_default w ↦ ap (λ text. text.items) w.text-is
      ∙ row-kept step_line c.args.log.now c.loop-at.at c.args.text.now.items c.loop-at.text.items (sym w.in_default.ensures) c.loop-at.invariant
]
