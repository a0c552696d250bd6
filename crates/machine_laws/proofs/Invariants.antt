-- What each step of a turn keeps, the turn keeps, and each moment of a run has.
use Rattle.std.proofs.Common.{◌≡◌, ℕ, zero, suc, ◌+◌, ◌-◌, true, List, [], ◌++◌, set, Option, Some, None, refl, sym, ap, ◌∙◌, subst}
use Rattle.std.specs.Prelude.{slice_get, All}
use Rattle.std.proofs.lemmas.List.{set-get_or}
use Rattle.std.proofs.lemmas.List.Elements.{All-cons, All-nil}
use Rattle.std.proofs.lemmas.Option.{get_or_from_slice_get}
use Rattle.ir_types.specs.declared.instruction.Site.{Site}
use Rattle.run_types.specs.declared.run.TurnEnd.{TurnEnd}
use Rattle.run_types.specs.declared.run.TurnEnd.TheVariants as ends
use Rattle.machine_model.specs.declared.state.State.{State}
use Rattle.machine_model.specs.declared.state.Thread.{Thread}
use Rattle.machine_model.specs.Effect.{Effect, Footprint}
use Rattle.machine_model.specs.Effect.Effect.{Done, Pauses, Exits, Traps, Blocks, NoRow}
use Rattle.machine_model.specs.Moment.{Moment, moments_from, moments_of, moments_with, onward_or_none}
use Rattle.machine_model.specs.Operation.{footprint_of, put_back}
use Rattle.machine_model.specs.Policy.{Choice, choose}
use Rattle.machine_model.specs.Run.{Course, advanced_by, after_turn, first_course}
use Rattle.machine_model.specs.System.{System}
use Rattle.machine_model.specs.Setting.{Setting}
use Rattle.machine_model.specs.Step.{Step, first_step, next_step}
use Rattle.machine_model.specs.Step.Step.{Waits, Does, Starts, Lacks}
use Rattle.machine_model.specs.Thread.{has_ended}
use Rattle.machine_model.specs.Turn.{Turned, Move, led_by, paid, steps_within, steps_from, rest_of_turn, continued, turn, turn_of, rest_of}
use Rattle.machine_model.specs.Turn.Move.{Leads, Stops}
use Rattle.machine_model.proofs.Cases.{by_test}
use Rattle.machine_model.proofs.Payment.{each-afforded, each-charged}

-- of what holds within a turn, and of what holds where its thread's next operation is pending
abbrev pub EffectKeeps : {S : Type 0} → (S → Type 0) → (S → Type 0) → Effect S → Type 0
EffectKeeps Within Between (Done more after) = Within after
EffectKeeps Within Between (Pauses more after) = Between after
EffectKeeps Within Between (Exits more status after) = Within after
EffectKeeps Within Between (Traps trap) = Unit {0}
EffectKeeps Within Between Blocks = Unit {0}
EffectKeeps Within Between NoRow = Unit {0}

abbrev pub StepKeeps : {S : Type 0} → (S → Type 0) → (S → Type 0) → Step S → Type 0
StepKeeps Within Between (Waits after addresses) = Between after
StepKeeps Within Between (Does numbers site effect) = EffectKeeps Within Between effect
StepKeeps Within Between Starts = Unit {0}
StepKeeps Within Between Lacks = Unit {0}

-- where a turn ends so
abbrev pub AtEnd : {S : Type 0} → (S → Type 0) → (S → Type 0) → TurnEnd → S → Type 0
AtEnd Within Between ends.Going after = Between after
AtEnd Within Between (ends.Exit status) after = Within after
AtEnd Within Between (ends.Trap trap site) after = Within after
AtEnd Within Between ends.Spent after = Within after

abbrev pub MoveKeeps : {S : Type 0} → (S → Type 0) → (S → Type 0) → Move S → Type 0
MoveKeeps Within Between (Leads after left decided) = Within after
MoveKeeps Within Between (Stops turned) = AtEnd Within Between turned.end turned.after

module _ {S : Type 0} (Within Between : S → Type 0) (before : S) (left : ℕ) (holds : Within before) where
  led-keeps : (rest : ℕ) (decided : List ℕ) (site : Site) (effect : Effect S) → EffectKeeps Within Between effect →
      MoveKeeps Within Between (led_by before rest decided site effect)
  led-keeps rest decided site (Done more after) keeps = keeps
  led-keeps rest decided site (Pauses more after) keeps = keeps
  led-keeps rest decided site (Exits more status after) keeps = keeps
  led-keeps rest decided site (Traps trap) keeps = holds
  led-keeps rest decided site Blocks keeps = holds
  led-keeps rest decided site NoRow keeps = holds

  pub paid-keeps : (decided : List ℕ) (step : Step S) → StepKeeps Within Between step →
      MoveKeeps Within Between (paid before left decided step)
  unfolding paid
  paid-keeps decided (Waits after addresses) keeps = keeps
  paid-keeps decided (Does numbers site effect) keeps =
      each-charged (MoveKeeps Within Between) before left (decided ++ numbers) site effect holds
      (λ price is some room. led-keeps (left - price) (decided ++ numbers) site effect keeps)
  paid-keeps decided Starts keeps =
      each-afforded (MoveKeeps Within Between) before left decided (λ rest. Leads before rest decided) (Some 1) holds
      (λ price is room. holds)
  paid-keeps decided Lacks keeps = holds

continued-keeps : {S : Type 0} (Within Between : S → Type 0) (go : S → ℕ → List ℕ → Turned S) (move : Move S) →
    MoveKeeps Within Between move →
    ((after : S) (left : ℕ) (decided : List ℕ) → Within after →
    let turned = go after left decided in AtEnd Within Between turned.end turned.after) →
    let turned = continued go move in AtEnd Within Between turned.end turned.after
continued-keeps Within Between go (Leads after left decided) keeps goes = goes after left decided keeps
continued-keeps Within Between go (Stops turned) keeps goes = keeps

-- each step of a thread with this number keeps it
pub record StepsKeep (setting : Setting) (number : ℕ) (Within Between : State → Type 0) : Type 0 where
  pub first : (state : State) (thread : Thread) → Within state →
      StepKeeps Within Between (first_step setting state number thread thread.pending)
  pub next : (state : State) (footprint : Footprint) → Within (put_back state number footprint) →
      StepKeeps (λ after. Within (put_back state number after)) (λ after. Between (put_back state number after))
      (next_step setting number footprint)
  pub over : (state : State) (thread : Thread) → slice_get state.threads number ≡ Some thread →
      has_ended thread ≡ true → Within state → Between state

module _ (setting : Setting) (number : ℕ) (Within Between : State → Type 0) (steps : StepsKeep setting number Within Between) where
  abbrev WithinAt : State → Footprint → Type 0
  WithinAt state footprint = Within (put_back state number footprint)

  abbrev BetweenAt : State → Footprint → Type 0
  BetweenAt state footprint = Between (put_back state number footprint)

  steps_within-keeps : (state : State) (most : ℕ) (footprint : Footprint) (left : ℕ) (decided : List ℕ) →
      WithinAt state footprint →
      let turned = steps_within most setting number footprint left decided in
      AtEnd (WithinAt state) (BetweenAt state) turned.end turned.after
  unfolding steps_within
  steps_within-keeps state zero footprint left decided holds = holds
  steps_within-keeps state (suc most) footprint left decided holds =
      continued-keeps (WithinAt state) (BetweenAt state) (steps_within most setting number)
      (paid footprint left decided (next_step setting number footprint))
      (paid-keeps (WithinAt state) (BetweenAt state) footprint left holds decided (next_step setting number footprint)
      (steps.next state footprint holds))
      (steps_within-keeps state most)

  put-back-itself : (state : State) (thread : Thread) → slice_get state.threads number ≡ Some thread →
      state ≡ put_back state number (footprint_of state thread)
  put-back-itself state thread is =
      ap (λ (threads : List Thread). record state { threads = threads })
      (sym (ap (set state.threads number) (sym (get_or_from_slice_get state.threads number thread thread is))
      ∙ set-get_or state.threads number thread))

  at_end : (state : State) (end : TurnEnd) (after : Footprint) → AtEnd (WithinAt state) (BetweenAt state) end after →
      AtEnd Within Between end (put_back state number after)
  at_end state ends.Going after holds = holds
  at_end state (ends.Exit status) after holds = holds
  at_end state (ends.Trap trap site) after holds = holds
  at_end state ends.Spent after holds = holds

  rest_of-keeps : (state : State) (left : ℕ) (decided : List ℕ) (thread : Option Thread) →
      slice_get state.threads number ≡ thread → Within state →
      let turned = rest_of setting number state left decided thread in AtEnd Within Between turned.end turned.after
  rest_of-keeps state left decided None is holds = holds
  rest_of-keeps state left decided (Some thread) is holds =
      by_test (λ (turned : Turned State). AtEnd Within Between turned.end turned.after) (has_ended thread) _ _
      (λ h. steps.over state thread is h holds)
      (λ h. let turned = steps_from setting number (footprint_of state thread) left decided in
      at_end state turned.end turned.after
      (steps_within-keeps state (left + 1) (footprint_of state thread) left decided
      (subst Within (put-back-itself state thread is) holds)))

  -- so the turn keeps it
  pub turn-holds : (state : State) (left : ℕ) → Within state →
      let turned = turn setting state number left in AtEnd Within Between turned.end turned.after
  unfolding turn rest_of_turn
  turn-holds state left holds = by_thread (slice_get state.threads number)
    where
      by_thread : (thread : Option Thread) →
          let turned = turn_of setting state number left thread in AtEnd Within Between turned.end turned.after
      by_thread None = holds
      by_thread (Some thread) =
          continued-keeps Within Between (rest_of_turn setting number)
          (paid state left [] (first_step setting state number thread thread.pending))
          (paid-keeps Within Between state left holds [] (first_step setting state number thread thread.pending)
          (steps.first state thread holds))
          (λ after rest decided keeps.
          rest_of-keeps after rest decided (slice_get after.threads number) refl keeps)

-- where the same holds within turns and between them
pub at_each_end : {S : Type 0} (Holds : S → Type 0) (end : TurnEnd) (after : S) → AtEnd Holds Holds end after → Holds after
at_each_end Holds ends.Going after holds = holds
at_each_end Holds (ends.Exit status) after holds = holds
at_each_end Holds (ends.Trap trap site) after holds = holds
at_each_end Holds ends.Spent after holds = holds

-- what turns keep that go on, each moment of a run has
module _ {S : Type 0} (system : System S) (Holds : S → Type 0)
    (keeps : (state : S) (thread left : ℕ) → Holds state →
    let turned = system.turn state thread left in turned.end ≡ ends.Going → Holds turned.after) where
  abbrev HasMoments : List (Moment S) → Type 0
  HasMoments moments = All (λ (moment : Moment S). Holds moment.before.state) moments

  none : HasMoments []
  none = All-nil (λ (moment : Moment S). Holds moment.before.state)

  onward-hold : (go : Course S → List (Moment S)) → ((course : Course S) → Holds course.state → HasMoments (go course)) →
      (thread : ℕ) (after : Course S) (end : TurnEnd) → (end ≡ ends.Going → Holds after.state) →
      HasMoments (onward_or_none go (advanced_by thread after end))
  onward-hold go goes thread after ends.Going holds = goes after (holds refl)
  onward-hold go goes thread after (ends.Exit status) holds = none
  onward-hold go goes thread after (ends.Trap trap site) holds = none
  onward-hold go goes thread after ends.Spent holds = none

  moments_with-hold : (go : Course S → List (Moment S)) → ((course : Course S) → Holds course.state → HasMoments (go course)) →
      (course : Course S) (choice : Option Choice) → Holds course.state → HasMoments (moments_with go system course choice)
  moments_with-hold go goes course None holds = none
  moments_with-hold go goes course (Some choice) holds =
      let turned = system.turn course.state choice.thread course.left in
      All-cons (λ (moment : Moment S). Holds moment.before.state) _ _ holds
      (onward-hold go goes choice.thread (after_turn course choice turned) turned.end
      (keeps course.state choice.thread course.left holds))

  moments_from-hold : (most : ℕ) (listed : List ℕ) (course : Course S) → Holds course.state →
      HasMoments (moments_from most system listed course)
  unfolding moments_from
  moments_from-hold zero listed course holds = none
  moments_from-hold (suc most) listed course holds =
      moments_with-hold (moments_from most system listed) (moments_from-hold most listed) course
      (choose listed course.policy (system.enabled course.state)) holds

  pub moments-hold : (listed : List ℕ) (steps : ℕ) → Holds system.start → HasMoments (moments_of system listed steps)
  unfolding moments_of
  moments-hold listed steps holds = moments_from-hold (steps + 1) listed (first_course system steps) holds
