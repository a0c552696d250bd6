-- A turn of a thread: its pending operation, and then its invisible instructions until its next operation is
-- pending or it has ended.
use Rattle.std.specs.Prelude.{ℕ, zero, suc, ◌+◌, ◌-◌, nat_lt, List, [], ◌++◌, slice_get, Option, Some, None, if◌then◌else◌}
use Rattle.ir_types.specs.declared.instruction.Site.{Site}
use Rattle.run_types.specs.declared.run.TurnEnd.{TurnEnd}
use Rattle.run_types.specs.declared.run.TurnEnd.TheVariants as ends
use Rattle.machine_model.specs.declared.state.State.{State}
use Rattle.machine_model.specs.declared.state.Thread.{Thread}
use Rattle.machine_model.specs.Effect.{Effect, Footprint}
use Rattle.machine_model.specs.Effect.Effect.{Done, Pauses, Exits, Traps, Blocks, NoRow}
use Rattle.machine_model.specs.Operation.{footprint_of, put_back}
use Rattle.machine_model.specs.Setting.{Setting}
use Rattle.machine_model.specs.Step.{Step, first_step, next_step}
use Rattle.machine_model.specs.Step.Step.{Waits, Does, Starts, Lacks}
use Rattle.machine_model.specs.Thread.{has_ended}

-- what a turn leaves, or a part of one: what it changed, the steps that are left, the numbers it decided
pub record Turned (S : Type 0) : Type 0 where
  pub after : S
  pub left : ℕ
  pub decided : List ℕ
  pub end : TurnEnd

-- a step that was taken goes on from here, or ended the turn
pub data Move (S : Type 0) : Type 0 where
  Leads : S → ℕ → List ℕ → Move S
  Stops : Turned S → Move S

abbrev pub stopped : {S : Type 0} → S → ℕ → List ℕ → TurnEnd → Move S
stopped after left decided end = Stops (record { after = after; left = left; decided = decided; end = end })

-- what an effect costs; none where nothing is done
abbrev pub cost_of_effect : {S : Type 0} → Effect S → Option ℕ
cost_of_effect (Done more after) = Some (more + 1)
cost_of_effect (Pauses more after) = Some (more + 1)
cost_of_effect (Exits more status after) = Some (more + 1)
cost_of_effect (Traps trap) = Some 1
cost_of_effect Blocks = None
cost_of_effect NoRow = None

-- what a step costs: becoming pending nothing, and a start 1; none where there is no step to take
abbrev pub cost_of : {S : Type 0} → Step S → Option ℕ
cost_of (Waits after addresses) = Some 0
cost_of (Does numbers site effect) = cost_of_effect effect
cost_of Starts = Some 1
cost_of Lacks = None

-- where a cost is more than what is left, the step is cut
abbrev pub afforded : {S : Type 0} → S → ℕ → List ℕ → (ℕ → Move S) → Option ℕ → Move S
afforded before left decided go None = stopped before left decided ends.Spent
afforded before left decided go (Some cost) =
    if nat_lt left cost then stopped before left decided ends.Spent else go (left - cost)

-- where an effect leads that was paid, with so much left
abbrev pub led_by : {S : Type 0} → S → ℕ → List ℕ → Site → Effect S → Move S
led_by before rest decided site (Done more after) = Leads after rest decided
led_by before rest decided site (Pauses more after) = stopped after rest decided ends.Going
led_by before rest decided site (Exits more status after) = stopped after rest decided (ends.Exit status)
led_by before rest decided site (Traps trap) = stopped before rest decided (ends.Trap trap site)
led_by before rest decided site Blocks = stopped before rest decided ends.Spent
led_by before rest decided site NoRow = stopped before rest decided ends.Spent

-- an effect is paid from what is left; one that is cut changes nothing, and its numbers were decided
unfoldable pub charged : {S : Type 0} → S → ℕ → List ℕ → Site → Effect S → Move S
charged before left decided site effect =
    afforded before left decided (λ rest. led_by before rest decided site effect) (cost_of_effect effect)

-- so is a step
unfoldable pub paid : {S : Type 0} → S → ℕ → List ℕ → Step S → Move S
paid before left decided (Waits after addresses) = stopped after left (decided ++ addresses) ends.Going
paid before left decided (Does numbers site effect) = charged before left (decided ++ numbers) site effect
paid before left decided Starts = afforded before left decided (λ rest. Leads before rest decided) (Some 1)
paid before left decided Lacks = stopped before left decided ends.Spent

abbrev pub continued : {S : Type 0} → (S → ℕ → List ℕ → Turned S) → Move S → Turned S
continued go (Leads after left decided) = go after left decided
continued go (Stops turned) = turned

-- the steps of a thread until the turn ends, of which there are at most `most`
unfoldable pub steps_within : ℕ → Setting → ℕ → Footprint → ℕ → List ℕ → Turned Footprint
steps_within zero setting number footprint left decided =
    record { after = footprint; left = left; decided = decided; end = ends.Spent }
steps_within (suc most) setting number footprint left decided =
    continued (steps_within most setting number) (paid footprint left decided (next_step setting number footprint))

-- each step that is followed by another costs at least 1
abbrev pub steps_from : Setting → ℕ → Footprint → ℕ → List ℕ → Turned Footprint
steps_from setting number footprint left decided = steps_within (left + 1) setting number footprint left decided

-- the turn goes on with its thread's instructions, unless the thread has ended
abbrev pub in_state : State → ℕ → Turned Footprint → Turned State
in_state state number turned = record {
  after = put_back state number turned.after;
  left = turned.left;
  decided = turned.decided;
  end = turned.end;
}

abbrev pub rest_of : Setting → ℕ → State → ℕ → List ℕ → Option Thread → Turned State
rest_of setting number state left decided None =
    record { after = state; left = left; decided = decided; end = ends.Spent }
rest_of setting number state left decided (Some thread) =
    if has_ended thread then record { after = state; left = left; decided = decided; end = ends.Going }
    else in_state state number (steps_from setting number (footprint_of state thread) left decided)

unfoldable pub rest_of_turn : Setting → ℕ → State → ℕ → List ℕ → Turned State
rest_of_turn setting number state left decided =
    rest_of setting number state left decided (slice_get state.threads number)

abbrev pub turn_of : Setting → State → ℕ → ℕ → Option Thread → Turned State
turn_of setting state number left None =
    record { after = state; left = left; decided = []; end = ends.Spent }
turn_of setting state number left (Some thread) =
    continued (rest_of_turn setting number)
    (paid state left [] (first_step setting state number thread thread.pending))

-- the turn of a thread that is enabled, with so many steps left
unfoldable pub turn : Setting → State → ℕ → ℕ → Turned State
turn setting state number left = turn_of setting state number left (slice_get state.threads number)
