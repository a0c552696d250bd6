-- The turn of a thread that may run, in a module that has all of its rows: there is each step that it takes.
use Rattle.std.proofs.Common.{◌≡◌, ℕ, zero, suc, ◌+◌, ◌<◌, Bool, true, false, cond, not, List, [], ◌++◌, Option, Some, None, refl, ap, ◌∙◌, arith}
use Rattle.std.specs.Prelude.{All, slice_get}
use Rattle.std.proofs.lemmas.Bool.{and_parts, not-true}
use Rattle.std.proofs.lemmas.List.{append-nil}
use Rattle.std.proofs.lemmas.Option.{slice_get_within}
use Rattle.ir_types.specs.declared.instruction.Inst.{Inst}
use Rattle.ir_types.specs.declared.instruction.Inst.TheVariants.{External}
use Rattle.run_types.specs.declared.run.TurnEnd.TheVariants as ends
use Rattle.machine_model.specs.declared.state.Frame.{Frame}
use Rattle.machine_model.specs.declared.state.Object.{Object}
use Rattle.machine_model.specs.declared.state.Operation.{Operation}
use Rattle.machine_model.specs.declared.state.Operation.TheVariants.{Start, At, CondReturn, Nothing}
use Rattle.machine_model.specs.declared.state.State.{State}
use Rattle.machine_model.specs.declared.state.Thread.{Thread}
use Rattle.machine_model.specs.Charge.{charges, charges_of_rest, charges_of_turn, charges_within}
use Rattle.machine_model.specs.Decision.{next_number, numbers_of, numbers_within}
use Rattle.machine_model.specs.Effect.{Footprint}
use Rattle.machine_model.specs.Enabled.{has_to_wait, may_run, waits_for}
use Rattle.machine_model.specs.Operation.{footprint_of}
use Rattle.machine_laws.specs.PendingLaws.{ArePending, IsNext, IsPending}
use Rattle.machine_model.specs.Rows.{HasRows}
use Rattle.machine_model.specs.Setting.{Setting}
use Rattle.machine_model.specs.Shared.{Shared, shared_of}
use Rattle.machine_model.specs.Step.{first_step, next_step}
use Rattle.machine_model.specs.Thread.{has_ended, top}
use Rattle.machine_model.specs.Turn.{in_state, rest_of_turn, steps_from, steps_within, turn, turn_of}
use Rattle.ir_types.specs.declared.«module».Module.{Module}
use Rattle.machine_laws.proofs.Charges.{IsCharged, StepGoes, paid-charged}
use Rattle.machine_laws.proofs.Endings.{each-none}
use Rattle.machine_model.proofs.Places.{All-slice_get, slice_get-some}
use Rattle.machine_laws.proofs.RowEffects.{Holds, IsSound, Runs, RunsOn, next-goes, set-holds, visible-goes}
use Rattle.machine_laws.proofs.WholeBlocks.{whole-next}

-- an instruction that waits, waits with all numbers that it decided
waits-alike : (code : Module) (objects : List Object) (frame : Frame) (shared : Shared) (number : ℕ) (addresses : List ℕ) (inst : Inst) →
    waits_for shared number (addresses ++ numbers_of code objects frame addresses inst) inst ≡ waits_for shared number addresses inst
unfolding waits_for numbers_within next_number
waits-alike code objects frame shared number addresses (External to which arguments) =
    ap (λ decided. waits_for shared number decided (External to which arguments)) (append-nil addresses)
waits-alike code objects frame shared number addresses inst = refl

module _ (setting : Setting) (rows : HasRows setting.code) (number : ℕ) where
  abbrev Steps : Footprint → Type 0
  Steps footprint = RunsOn setting number footprint

  abbrev Keeps : State → Type 0
  Keeps state = Holds setting number state

  first-goes : (state : State) (thread : Thread) → Keeps state → Runs setting.code thread.frames →
      IsNext setting.code (top thread) thread.pending → has_to_wait setting.code (shared_of state) number thread thread.pending ≡ false →
      StepGoes Keeps (first_step setting state number thread thread.pending)
  unfolding first_step has_to_wait
  first-goes state thread holds runs = go thread.pending
    where
      top_is : top thread ≡ Some runs.frame
      top_is = rw runs.only refl

      go : (operation : Operation) → IsNext setting.code (top thread) operation →
          has_to_wait setting.code (shared_of state) number thread operation ≡ false →
          StepGoes Keeps (first_step setting state number thread operation)
      go Start pends free = tt
      go (At site addresses) pends free =
          let next = whole-next setting.code runs.frame runs.whole in
          let waits = rw (top_is, next.is) at free in
          rw (top_is, next.is)
          (visible-goes setting number rows state thread runs.frame _ next.placed.inst holds runs next.row next.on
          (waits-alike setting.code state.objects runs.frame (shared_of state) number addresses next.placed.inst ∙ waits))
      go (CondReturn site addresses) pends free = absurd pends
      go Nothing pends free = absurd pends

  within-charged : (most : ℕ) (footprint : Footprint) (left : ℕ) (decided : List ℕ) → left < most → Steps footprint →
      IsCharged Steps (steps_within most setting number footprint left decided) (charges_within most setting number footprint left)
  unfolding steps_within charges_within
  within-charged zero footprint left decided less runs = absurd (omega arith)
  within-charged (suc most) footprint left decided less runs =
      paid-charged Steps (steps_within most setting number) (charges_within most setting number) footprint left runs
      (λ after rest more fewer runs. within-charged most after rest more (omega arith) runs)
      decided (next_step setting number footprint) (next-goes setting number footprint runs)

  rest-charged : (state : State) (left : ℕ) (decided : List ℕ) → Keeps state →
      IsCharged Keeps (rest_of_turn setting number state left decided)
      (charges_of_rest setting number state left (slice_get state.threads number))
  unfolding rest_of_turn
  rest-charged state left decided holds =
      let found = slice_get-some state.threads number holds.inside in
      rw found.1
      (go found.0 (has_ended found.0) refl (All-slice_get (IsSound setting.code) state.threads number found.0 holds.sound found.1))
    where
      go : (thread : Thread) (over : Bool) → has_ended thread ≡ over → IsSound setting.code thread →
          IsCharged Keeps
          (cond over (record { after = state; left = left; decided = decided; end = ends.Going })
          (in_state state number (steps_from setting number (footprint_of state thread) left decided)))
          (cond over [] (charges_within (left + 1) setting number (footprint_of state thread) left))
      go thread true is sound = record { keeps = holds; costs = each-none (λ spent. let h : ⊥ = cc in h) }
      go thread false is sound =
          let rest = within-charged (left + 1) (footprint_of state thread) left decided (omega arith) (sound is) in
          record { keeps = set-holds setting number state.threads number _ holds (λ live. rest.keeps); costs = rest.costs }

  pub turn-charged : (state : State) (left : ℕ) → ArePending setting.code state → All (IsSound setting.code) state.threads →
      may_run setting.code (shared_of state) number (slice_get state.threads number) ≡ true →
      IsCharged Keeps (turn setting state number left) (charges setting state number left)
  unfolding turn charges
  turn-charged state left pend sound may = go (slice_get state.threads number) refl may
    where
      go : (thread : Option Thread) → slice_get state.threads number ≡ thread → may_run setting.code (shared_of state) number thread ≡ true →
          IsCharged Keeps (turn_of setting state number left thread) (charges_of_turn setting state number left thread)
      go None is may = absurd (let h : ⊥ = cc in h)
      go (Some thread) is may =
          let holds : Keeps state = record { sound = sound; inside = slice_get_within state.threads number thread is } in
          let parts = and_parts (not (has_ended thread)) (not (has_to_wait setting.code (shared_of state) number thread thread.pending)) may in
          let live = not-true (has_ended thread) parts.0 in
          paid-charged Keeps (rest_of_turn setting number)
          (λ after rest. charges_of_rest setting number after rest (slice_get after.threads number)) state left holds
          (λ after rest decided fewer holds. rest-charged after rest decided holds)
          [] (first_step setting state number thread thread.pending)
          (first-goes state thread holds
          (All-slice_get (IsSound setting.code) state.threads number thread sound is live)
          (All-slice_get (IsPending setting.code) state.threads number thread pend is live)
          (not-true (has_to_wait setting.code (shared_of state) number thread thread.pending) parts.1))
