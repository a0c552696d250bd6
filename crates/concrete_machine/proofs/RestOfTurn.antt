-- The rest of a turn, from what the thread's instructions give.
use Rattle.std.proofs.Common.{◌≡◌, ℕ, false, cond, List, set, Some, ap, ◌∙◌}
use Rattle.std.specs.Prelude.{slice_get}
use Rattle.run_types.specs.declared.run.TurnEnd.{TurnEnd}
use Rattle.run_types.specs.declared.run.TurnEnd.TheVariants as ends
use Rattle.machine_model.specs.declared.state.Object.{Object}
use Rattle.machine_model.specs.declared.state.State.{State}
use Rattle.machine_model.specs.declared.state.Thread.{Thread}
use Rattle.machine_model.specs.Setting.{Setting}
use Rattle.machine_model.specs.Thread.{has_ended}
use Rattle.machine_model.specs.Turn.{in_state, steps_from, rest_of_turn, rest_of}
use Rattle.concrete_machine.specs.Effect.{footprint_with}
use Rattle.concrete_machine.specs.Turns.{turn_leaving}

-- the thread's instructions change it and the objects in place
pub rest_of_turn_goes : (setting : Setting) (number : ℕ) (state : State) (left rest : ℕ) (decided more : List ℕ)
    (thread after : Thread) (objects : List Object) (end : TurnEnd) →
    slice_get state.threads number ≡ Some thread → has_ended thread ≡ false →
    steps_from setting number (footprint_with thread state.objects) left decided ≡ turn_leaving (footprint_with after objects) rest more end →
    rest_of_turn setting number state left decided
    ≡ turn_leaving (record state { threads = set state.threads number after; objects = objects }) rest more end
unfolding rest_of_turn
rest_of_turn_goes setting number state left rest decided more thread after objects end there goes ran =
    ap (rest_of setting number state left decided) there
    ∙ ap (λ test. cond test (turn_leaving state left decided ends.Going) (in_state state number (steps_from setting number (footprint_with thread state.objects) left decided))) goes
    ∙ ap (in_state state number) ran
