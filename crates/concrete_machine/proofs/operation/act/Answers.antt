use Rattle.std.proofs.Common.{◌≡◌, false, Option, map, ap, ◌∙◌, sym, subst, arith}
use Rattle.std.specs.Prelude.{slice_get}
use Rattle.std.proofs.lemmas.Grind.{common_steps}
use Rattle.std.proofs.lemmas.Option.{gets, slice_get_within}
use Rattle.machine_model.specs.declared.state.Thread.{Thread}
use Rattle.machine_model.specs.Call.{call_of, is_blocked}
use Rattle.machine_model.specs.Operation.{made_by}
use Rattle.machine_model.specs.Shared.{shared_of}
use Rattle.machine_model.specs.Thread.{top, value_of}
use Rattle.concrete_machine.specs.Call.{items_of_call}
use Rattle.concrete_machine.specs.Operation.{IsTopOf}
use Rattle.concrete_machine.proofs.Actions.{acts_call, acts_other, is_top_kept}
use Rattle.concrete_machine.proofs.operation.act.Goals as goal

pub returns-in_ok-action-in-External-clause-value : goal.returns-in_ok-action-in-External-clause-value
returns-in_ok-action-in-External-clause-value c = λ thread frame there tops.
    let before = c.args.state.now in
    let number = c.args.number in
    let which = c.in-External.which in
    let same : c.index-thread.result.now ≡ thread = grind (arith, common_steps, gets) in
    let arguments = c.in_ok-arguments-in-External.ensures frame (ap top same ∙ tops) in
    let blocked = c.is_blocked.ensures number in
    let free : is_blocked (shared_of before) number which c.args.decided.now ≡ false = cc in
    let now = c.in_ok-called-in-External.ensures in
    let listed : c.deref.result.now ≡ c.in-External.args = cc in
    let given : c.deref-in-External.result.now ≡ map (value_of frame) c.in-External.args =
    c.deref-in-External.ensures.value ∙ arguments ∙ ap (map (value_of frame)) listed in
    let AtTop : Option Thread → Type 0 = λ found. IsTopOf found frame in
    let runs = is_top_kept (slice_get before.threads number) (slice_get c.call.new.state.threads number) frame
    (now.frames number (slice_get_within before.threads number thread there)) (subst AtTop (sym there) tops) in
    let values = map (value_of frame) c.in-External.args in
    let effect = call_of (shared_of before) number which values c.args.decided.now in
    acts_call c.in_ok-action-in-External.action c.args.setting.now before c.conclude.new.state number thread frame
    c.args.decided.now c.args.inst.now c.in-External.to which c.in-External.args c.in-External.is free
    (c.in_ok-action-in-External.ensures.value (items_of_call which) before (made_by c.args.setting.now.code which values) frame effect
    runs now.items now.output (rw given at (now.value number)))

pub returns-in_default-clause-value : goal.returns-in_default-clause-value
returns-in_default-clause-value c = λ thread frame there tops.
    acts_other c.access.result c.args.setting.now c.args.state.now c.access.new.state c.args.number thread frame c.args.decided.now c.args.inst.now
    c.in_default.not-External c.in_default.not-Ret (c.access.ensures.value thread frame there tops)
