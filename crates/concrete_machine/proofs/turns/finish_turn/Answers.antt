use Rattle.std.proofs.Common.{◌≡◌, Some, false, arith}
use Rattle.std.proofs.lemmas.Grind.{common_steps}
use Rattle.std.proofs.lemmas.Option.{gets}
use Rattle.std.specs.Prelude.{slice_get}
use Rattle.machine_model.specs.Thread.{has_ended}
use Rattle.concrete_machine.proofs.RestOfTurn.{rest_of_turn_goes}
use Rattle.concrete_machine.proofs.turns.finish_turn.Goals as goal

pub returns-clause-value : goal.returns-clause-value
returns-clause-value c =
    let held = c.index_mut-thread.result.now in
    let ran = c.in_ok-end.ensures c.args.number in
    let o = c.state.view_is in
    let there : slice_get c.args.state.now.threads c.args.number ≡ Some held = grind (arith, common_steps, gets) in
    let goes : has_ended held ≡ false = grind (arith, common_steps, gets) in
    let same : c.deref_mut.result.now ≡ c.args.state.now.objects = cc in
    let rest = rest_of_turn_goes c.args.setting.now c.args.number c.args.state.now c.args.left.now c.run_on.new.left
    c.args.decided.now.items c.run_on.new.decided.items held c.run_on.new.thread c.run_on.new.objects c.in_ok-end.end
    there goes (rw same at ran) in
    grind (arith, common_steps, rest)
