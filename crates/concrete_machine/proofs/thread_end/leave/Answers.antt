use Rattle.std.proofs.Common.{◌≡◌, ap, ◌∙◌, arith}
use Rattle.std.proofs.lemmas.Grind.{common_steps}
use Rattle.std.proofs.lemmas.Option.{gets}
use Rattle.machine_model.specs.Thread.{top}
use Rattle.concrete_machine.proofs.thread_end.leave.Goals as goal

pub returns-clause-value : goal.returns-clause-value
returns-clause-value c = λ thread frame there tops.
    let same : c.index_mut-thread.result.now ≡ thread = grind (arith, common_steps, gets) in
    let stack = c.stack_of.ensures frame (ap top same ∙ tops) in
    let o = c.state.view_is in
    grind (arith, common_steps, gets)
