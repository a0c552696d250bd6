use Rattle.std.proofs.Common.{◌≡◌, ◌++◌, Option, Some, ap, ◌∙◌, sym, subst, arith}
use Rattle.std.specs.Prelude.{slice_get}
use Rattle.std.proofs.lemmas.Grind.{common_steps}
use Rattle.std.proofs.lemmas.Option.{gets}
use Rattle.machine_model.specs.declared.state.Thread.{Thread}
use Rattle.machine_model.specs.Decision.{numbers_of}
use Rattle.machine_model.specs.Setting.{Setting}
use Rattle.machine_model.specs.Thread.{top}
use Rattle.concrete_machine.specs.Advance.{moved_to}
use Rattle.concrete_machine.specs.Code.{next_of, placed_of}
use Rattle.concrete_machine.specs.Operation.{CanGoOn}
use Rattle.concrete_machine.proofs.Actions.{moves_pending}
use Rattle.concrete_machine.proofs.operation.run_pending.Goals as goal

pub run_visible-requires-clause-thread : goal.run_visible-requires-clause-thread
run_visible-requires-clause-thread c =
    let thread = c.index-thread.result.now in
    let there : slice_get c.args.state.now.threads c.args.number ≡ Some thread = grind (arith, common_steps, gets) in
    let AtThread : Option Thread → Type 0 = λ found. CanGoOn found in
    subst AtThread (sym there) c.in-Some.ensures.room

pub returns-clause-value : goal.returns-clause-value
returns-clause-value c = λ thread site addresses there pending.
    let more = c.decide.new.decided.items in
    let same : c.index-thread.result.now ≡ thread = grind (arith, common_steps, gets) in
    let listed : c.deref.result.now ≡ addresses = cc in
    let all : c.deref-2.result.now ≡ addresses ++ more =
    c.deref-2.ensures.value ∙ c.in_ok-numbers.ensures.all ∙ ap (λ front. front ++ more) listed in
    let code = ap (λ (setting : Setting). next_of setting.code c.index-thread.result.now) c.setting.view_is in
    let next = ap (next_of c.args.setting.now.code) (sym same) ∙ sym code ∙ sym c.in-Some.ensures.value in
    moves_pending c.args.setting.now c.args.state.now c.args.number c.args.left.now thread addresses more c.deref-2.result.now
    (placed_of c.in-Some.placed) (moved_to c.in_ok-end.end c.run_visible.new.state c.run_visible.new.left more) next
    (λ frame tops. c.in_ok-numbers.ensures.numbers frame (ap top same ∙ tops)
    ∙ ap (λ front. numbers_of c.args.setting.now.code c.args.state.now.objects frame front c.in-Some.placed.inst.now) listed) all
    (λ frame tops. c.in_ok-end.ensures.value thread frame more there tops)
