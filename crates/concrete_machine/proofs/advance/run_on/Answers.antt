use Rattle.std.proofs.Common.{◌+◌, ◌-◌, sym, ap, ◌∙◌, arith}
use Rattle.concrete_machine.specs.Advance.{moved_to}
use Rattle.concrete_machine.specs.Effect.{footprint_with}
use Rattle.concrete_machine.proofs.Moves.{steps_within-leads, steps_within-none, steps_within-stops}
use Rattle.concrete_machine.proofs.advance.run_on.Goals as goal

pub returns-in-Some : goal.returns-in-Some
returns-in-Some c number =
    let most = c.from-most.result + 1 - c.loop.counter in
    let before = footprint_with c.loop.thread c.loop.objects in
    let after = footprint_with c.step.new.thread c.step.new.objects in
    sym (c.loop.invariant number)
    ∙ steps_within-stops most (most - 1) c.args.setting.now number before c.loop.left c.loop.decided.items _ (omega arith)
    (c.in_ok-end.ensures number ∙ ap (λ end. moved_to end after c.step.new.left c.step.new.decided.items) c.in-Some.is)

pub loop-preserved : goal.loop-preserved
loop-preserved c number =
    let most = c.from-most.result + 1 - c.loop.counter in
    let before = footprint_with c.loop.thread c.loop.objects in
    let after = footprint_with c.step.new.thread c.step.new.objects in
    sym (steps_within-leads most (c.from-most.result + 1 - (c.loop.counter + 1)) c.args.setting.now number before after c.loop.left c.step.new.left
    c.loop.decided.items c.step.new.decided.items (omega arith)
    (c.in_ok-end.ensures number ∙ ap (λ end. moved_to end after c.step.new.left c.step.new.decided.items) c.in_default.is))
    ∙ c.loop.invariant number

pub returns : goal.returns
returns c number =
    sym (c.loop.invariant number)
    ∙ steps_within-none (c.from-most.result + 1 - c.loop.counter) c.args.setting.now number
    (footprint_with c.loop.thread c.loop.objects) c.loop.left c.loop.decided.items (omega arith)
