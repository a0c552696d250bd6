use Rattle.std.proofs.Common.{◌≡◌, ap, ◌∙◌, arith}
use Rattle.std.proofs.lemmas.Grind.{common_steps}
use Rattle.std.proofs.lemmas.Option.{gets}
use Rattle.machine_model.specs.Thread.{top}
use Rattle.concrete_machine.proofs.operation.access.Goals as goal
use Rattle.concrete_machine.proofs.operation.access.Goals.{in-Done, in-Traps, in-NoRow}

pub returns-clause-value : goal.returns-clause-value
returns-clause-value c = λ thread frame there tops.
    let same : c.index_mut-thread.result.now ≡ thread = grind (arith, common_steps, gets) in
    let e = c.apply.ensures c.args.number frame (ap top same ∙ tops) in
    let o = c.state.view_is in
    elim c.match-apply.branch [
      | in-Done w ↦ grind (arith, common_steps, gets)
      | in-Traps w ↦ grind (arith, common_steps, gets)
      | in-NoRow w ↦ grind (arith, common_steps, gets)
    ]
