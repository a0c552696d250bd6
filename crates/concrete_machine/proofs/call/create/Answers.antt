use Rattle.std.proofs.Common.{◌≡◌, ◌<◌, ◌∷◌, [], length, Ok, arith}
use Rattle.std.proofs.lemmas.Grind.{common_steps}
use Rattle.machine_model.specs.Call.{most_threads}
use Rattle.machine_model.specs.Memory.{written}
use Rattle.machine_model.specs.Thread.{made}
use Rattle.concrete_machine.proofs.Calls.{calls-full, calls-made, frames-front}
use Rattle.concrete_machine.proofs.call.create.Goals as goal

pub returns-then-count-ge-MOST_THREADS-clause-value : goal.returns-then-count-ge-MOST_THREADS-clause-value
returns-then-count-ge-MOST_THREADS-clause-value c =
    calls-full c.args.state.now _ c.args.at (let o = c.state.view_is in grind (arith, common_steps))

pub returns-clause-value : goal.returns-clause-value
returns-clause-value c =
    let before = c.args.state.now in
    let o = c.state.view_is in
    let few : length before.threads < most_threads = grind (arith, common_steps) in
    let stores : written before.objects c.args.at 8 (length before.threads) ≡ Ok c.write.new.objects = grind (arith, common_steps) in
    calls-made before _ c.args.at c.write.new.objects c.args.setting.now.code c.args.function c.args.argument few stores
    (grind (arith, common_steps))

pub returns-clause-frames : goal.returns-clause-frames
returns-clause-frames c =
    let other = made c.args.setting.now.code c.args.function (c.args.argument ∷ []) in
    let o = c.state.view_is in
    frames-front c.args.state.now.threads c.push.new.self.items other (grind (arith, common_steps))
