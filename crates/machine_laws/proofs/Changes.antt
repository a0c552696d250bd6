-- What a turn changes: its own thread, the threads that it makes and joins, and objects by stores and deaths. What each
-- of these keeps, the turn keeps.
use Rattle.std.proofs.Common.{◌≡◌, ℕ, ◌%◌, ◌^◌, true, leb, eqb, List, [], ◌∷◌, ◌++◌, map, length, Option, Some, None, Result, Ok, Err, refl, sym, subst}
use Rattle.std.specs.Prelude.{option_map, slice_get, slice_index, slice_set}
use Rattle.std.specs.List.{list_all}
use Rattle.std.proofs.lemmas.List.{set-set}
use Rattle.std.proofs.lemmas.Option.{slice_get-map}
use Rattle.ir_types.specs.declared.external.Extern.{Extern}
use Rattle.ir_types.specs.declared.external.Extern.TheVariants.{Create, Join, Putchar}
use Rattle.ir_types.specs.declared.instruction.Inst.{Inst}
use Rattle.ir_types.specs.declared.instruction.Inst.TheVariants.{Binary, Load, Store, External, Ret}
use Rattle.ir_types.specs.Kind.{width_of, size_of}
use Rattle.ir_types.specs.Width.{bits_of}
use Rattle.machine_model.specs.declared.state.Frame.{Frame}
use Rattle.machine_model.specs.declared.state.Object.{Object}
use Rattle.machine_model.specs.declared.state.State.{State}
use Rattle.machine_model.specs.declared.state.Thread.{Thread}
use Rattle.run_types.specs.declared.trap.Trap.{Trap}
use Rattle.machine_model.specs.Call.{Returned, call_of, created, is_blocked, joined, joined_at, joined_or_traps, most_threads, result_of, with_result}
use Rattle.machine_model.specs.Code.{Placed, next_in}
use Rattle.machine_model.specs.Decision.{addresses_of, total_of_binary}
use Rattle.machine_model.specs.Effect.{Effect, Footprint, done_or_traps, mapped}
use Rattle.machine_model.specs.Effect.Effect.{Done, Pauses, Exits, Traps, Blocks, NoRow}
use Rattle.machine_model.specs.Instruction.{address_in, done_unless, effect_of, sets, stores, test_in, trap_of_test}
use Rattle.machine_model.specs.Memory.{read, without, written}
use Rattle.machine_model.specs.Operation.{changed_by, charged_for_items, ended, ends_with, footprint_of, is_visible, made_by, put_back, after_call, visible_effect, with_frame}
use Rattle.machine_model.specs.Setting.{Setting}
use Rattle.machine_model.specs.Shared.{End, end_of, shared_of}
use Rattle.machine_model.specs.Step.{Step, next_step, next_step_at, next_step_in, made_pending}
use Rattle.machine_model.specs.Thread.{has_ended, made, top, value_of}
use Rattle.machine_model.specs.Turn.{turn}
use Rattle.machine_model.proofs.CallStates.{state-joined, state-made, state-stays}
use Rattle.machine_model.proofs.Cases.{by_test}
use Rattle.machine_laws.proofs.Invariants.{AtEnd, EffectKeeps, StepKeeps, at_each_end, turn-holds}
use Rattle.machine_model.proofs.Steps.{each-first_step}

-- of the threads and the objects, in the turn of the thread of this number
pub record ChangesKeep (setting : Setting) (number : ℕ) (Holds : List Thread → List Object → Type 0) : Type 0 where
  pub own : (threads : List Thread) (objects : List Object) (thread : Thread) → Holds threads objects →
      Holds (slice_set threads number thread) objects
  pub make : (threads : List Thread) (objects : List Object) (function : ℕ) (arguments : List ℕ) → Holds threads objects →
      Holds (threads ++ made setting.code function arguments ∷ []) objects
  pub join : (threads : List Thread) (objects : List Object) (place : ℕ) (thread : Thread) →
      slice_get threads place ≡ Some thread → Holds threads objects →
      Holds (slice_set threads place (record thread { joined = true })) objects
  pub store : (threads : List Thread) (objects after : List Object) (at len bits : ℕ) → written objects at len bits ≡ Ok after →
      Holds threads objects → Holds threads after
  pub death : (threads : List Thread) (bases : List ℕ) (objects : List Object) → Holds threads objects →
      Holds threads (without bases objects)

module _ (setting : Setting) (number : ℕ) (Holds : List Thread → List Object → Type 0) (changes : ChangesKeep setting number Holds) where
  abbrev pub Within : State → Type 0
  Within state = Holds state.threads state.objects

  -- after a call that creates these threads, if it creates any
  abbrev InReturned : State → List Thread → Returned → Type 0
  InReturned state others call = Within (changed_by state others call.shared)

  stores-keep : {S : Type 0} (In Paused : S → Type 0) (threads : List Thread) (objects : List Object) (at len bits : ℕ)
      (after : List Object → S) → ((list : List Object) → Holds threads list → In (after list)) → Holds threads objects →
      EffectKeeps In Paused (done_or_traps after (written objects at len bits))
  stores-keep In Paused threads objects at len bits after then holds = go (written objects at len bits) refl
    where
      go : (result : Result (List Object) Trap) → written objects at len bits ≡ result →
          EffectKeeps In Paused (done_or_traps after result)
      go (Ok list) is = then list (changes.store threads objects list at len bits is holds)
      go (Err trap) is = tt

  -- an instruction that changes only its thread, one of these, and the objects
  module _ (threads : List Thread) where
    abbrev InFootprint : Footprint → Type 0
    InFootprint footprint = Holds (slice_set threads number footprint.thread) footprint.objects

    own-again : (one other : Thread) (objects : List Object) → Holds (slice_set threads number one) objects →
        Holds (slice_set threads number other) objects
    own-again one other objects holds =
        subst (λ list. Holds list objects) (set-set threads number one other)
        (changes.own (slice_set threads number one) objects other holds)

    -- the rows, of which none pauses
    module _ (Paused : Footprint → Type 0) where
      sets-keep : (footprint : Footprint) (frame : Frame) (to value : ℕ) (trap : Option Trap) → InFootprint footprint →
          EffectKeeps InFootprint Paused (done_unless (sets footprint frame to value) trap)
      sets-keep footprint frame to value None holds = own-again footprint.thread _ footprint.objects holds
      sets-keep footprint frame to value (Some trap) holds = tt

      loads-keep : (footprint : Footprint) (frame : Frame) (to : ℕ) (value_of : ℕ → ℕ) (value : Result ℕ Trap) → InFootprint footprint →
          EffectKeeps InFootprint Paused (done_or_traps (λ value. sets footprint frame to (value_of value)) value)
      loads-keep footprint frame to value_of (Ok value) holds = own-again footprint.thread _ footprint.objects holds
      loads-keep footprint frame to value_of (Err trap) holds = tt

      effect-keeps : (footprint : Footprint) (frame : Frame) (decided : List ℕ) (inst : Inst) → InFootprint footprint →
          EffectKeeps InFootprint Paused (effect_of setting number footprint frame decided inst)
      unfolding effect_of
      effect-keeps footprint frame decided (Binary to op a b) holds =
          sets-keep footprint frame to (total_of_binary setting.code frame op a b) (trap_of_test op (test_in decided)) holds
      effect-keeps footprint frame decided (Load to kind at) holds =
          loads-keep footprint frame to (λ value. value % 2 ^ bits_of (width_of kind))
          (read footprint.objects (address_in decided) (size_of kind)) holds
      effect-keeps footprint frame decided (Store kind value at) holds =
          stores-keep InFootprint Paused (slice_set threads number footprint.thread) footprint.objects (address_in decided) (size_of kind)
          (value_of frame value % 2 ^ bits_of (width_of kind)) (stores footprint frame)
          (λ list holds. own-again footprint.thread _ list holds) holds
      effect-keeps footprint frame decided _ holds = tt

  -- the rows of calls, of which none pauses
  module _ (Paused : Returned → Type 0) where
    created-keeps : (state : State) (function argument at : ℕ) → Within state →
        EffectKeeps (InReturned state (made setting.code function (argument ∷ []) ∷ [])) Paused (created (shared_of state) at)
    created-keeps state function argument at holds =
        by_test (EffectKeeps In Paused) (leb most_threads (length (map end_of state.threads))) _ _
        (λ h. subst Within (sym (state-stays state (other ∷ []))) holds)
        (λ h. stores-keep In Paused state.threads state.objects at 8 (length (map end_of state.threads)) _
        (λ list holds. subst Within (sym (state-made state other list)) (changes.make state.threads list function (argument ∷ []) holds)) holds)
      where
        other : Thread
        other = made setting.code function (argument ∷ [])

        In : Returned → Type 0
        In call = InReturned state (other ∷ []) call

    joined-keeps : (state : State) (others : List Thread) (place at : ℕ) → Within state →
        EffectKeeps (InReturned state others) Paused (joined (shared_of state) place at)
    joined-keeps state others place at holds =
        subst (λ (end : Option End). Keeps (joined_or_traps (shared_of state) place end (with_result state.objects end at)))
        (sym (slice_get-map end_of state.threads place)) (of_thread (slice_get state.threads place) refl)
      where
        Keeps : Effect Returned → Type 0
        Keeps effect = EffectKeeps (InReturned state others) Paused effect

        of_objects : (thread : Option Thread) → slice_get state.threads place ≡ thread → (objects : List Object) →
            Holds state.threads objects → Keeps (joined_at (shared_of state) place (option_map end_of thread) objects)
        of_objects None is objects holds = tt
        of_objects (Some one) is objects holds =
            by_test Keeps one.joined _ _ (λ h. tt)
            (λ h. subst Within (sym (state-joined state others place one objects is)) (changes.join state.threads objects place one is holds))

        of_result : (thread : Option Thread) → slice_get state.threads place ≡ thread → (result : Result (List Object) Trap) →
            written state.objects at 8 (result_of (option_map end_of thread)) ≡ result →
            Keeps (joined_or_traps (shared_of state) place (option_map end_of thread) result)
        of_result thread is (Ok objects) stored =
            of_objects thread is objects (changes.store state.threads state.objects objects at 8 _ stored holds)
        of_result thread is (Err trap) stored = tt

        of_thread : (thread : Option Thread) → slice_get state.threads place ≡ thread →
            let end = option_map end_of thread in
            Keeps (joined_or_traps (shared_of state) place end (with_result state.objects end at))
        of_thread thread is =
            by_test (λ (result : Result (List Object) Trap). Keeps (joined_or_traps (shared_of state) place (option_map end_of thread) result))
            (eqb at 0) _ _
            (λ h. of_objects thread is state.objects holds)
            (λ h. of_result thread is (written state.objects at 8 (result_of (option_map end_of thread))) refl)

    call-keeps : (state : State) (which : Extern) (arguments decided : List ℕ) → Within state →
        EffectKeeps (InReturned state (made_by setting.code which arguments)) Paused (call_of (shared_of state) number which arguments decided)
    unfolding call_of made_by
    call-keeps state (Create function) arguments decided holds =
        created-keeps state function (slice_index arguments 2) (slice_index decided 0) holds
    call-keeps state Join arguments decided holds =
        joined-keeps state [] (slice_index decided 0) (slice_index decided 1) holds
    call-keeps state Putchar arguments decided holds = subst Within (sym (state-stays state [])) holds
    call-keeps state _ arguments decided holds = tt

  with_frame-keeps : (state : State) (frame : Frame) (thread : Option Thread) → Within state →
      Within (with_frame state number frame thread)
  with_frame-keeps state frame None holds = holds
  with_frame-keeps state frame (Some thread) holds = changes.own state.threads state.objects _ holds

  -- visible instructions, after which this holds where they pause
  module _ (Between : State → Type 0) where
    after_call-keeps : (state : State) (others : List Thread) (frame : Frame) (to : Option ℕ) (call : Effect Returned) →
        EffectKeeps (InReturned state others) (λ (call : Returned). Between (after_call state others number frame to call)) call →
        EffectKeeps Within Between (charged_for_items (after_call state others number frame to) call)
    after_call-keeps state others frame to (Done more call) keeps =
        let after = changed_by state others call.shared in with_frame-keeps after _ (slice_get after.threads number) keeps
    after_call-keeps state others frame to (Pauses more call) keeps = keeps
    after_call-keeps state others frame to (Exits more status call) keeps =
        let after = changed_by state others call.shared in with_frame-keeps after _ (slice_get after.threads number) keeps
    after_call-keeps state others frame to (Traps trap) keeps = tt
    after_call-keeps state others frame to Blocks keeps = tt
    after_call-keeps state others frame to NoRow keeps = tt

    ends-keep : (state : State) (thread : Thread) (frame : Frame) (result : ℕ) → Within state →
        EffectKeeps Within Between (ends_with state number thread frame result)
    ends-keep state thread frame result holds =
        by_test (EffectKeeps Within Between) (eqb number 0) _ _
        (λ h. holds)
        (λ h. by_test (EffectKeeps Within Between) (list_all has_ended (slice_set state.threads number (ended thread result))) _ _
        (λ h. ends) (λ h. ends))
      where
        ends : Holds (slice_set state.threads number (ended thread result)) (without frame.stack state.objects)
        ends = changes.death _ frame.stack state.objects (changes.own state.threads state.objects (ended thread result) holds)

    mapped-keeps : (state : State) (effect : Effect Footprint) →
        EffectKeeps (InFootprint state.threads) (λ (after : Footprint). Between (put_back state number after)) effect →
        EffectKeeps Within Between (mapped (put_back state number) effect)
    mapped-keeps state (Done more after) keeps = keeps
    mapped-keeps state (Pauses more after) keeps = keeps
    mapped-keeps state (Exits more status after) keeps = keeps
    mapped-keeps state (Traps trap) keeps = tt
    mapped-keeps state Blocks keeps = tt
    mapped-keeps state NoRow keeps = tt

    visible-keeps : (state : State) (thread : Thread) (frame : Frame) (decided : List ℕ) (inst : Inst) → Within state →
        EffectKeeps Within Between (visible_effect setting state number thread frame decided inst)
    unfolding visible_effect
    visible-keeps state thread frame decided (External to which arguments) holds =
        let values = map (value_of frame) arguments in
        let others = made_by setting.code which values in
        by_test (EffectKeeps Within Between) (is_blocked (shared_of state) number which decided) _ _
        (λ h. tt)
        (λ h. after_call-keeps state others frame to (call_of (shared_of state) number which values decided)
        (call-keeps (λ (call : Returned). Between (after_call state others number frame to call)) state which values decided holds))
    visible-keeps state thread frame decided (Ret value) holds = ends-keep state thread frame _ holds
    visible-keeps state thread frame decided inst holds =
        mapped-keeps state (effect_of setting number (footprint_of state thread) frame decided inst)
        (effect-keeps state.threads (λ (after : Footprint). Between (put_back state number after)) (footprint_of state thread) frame decided inst
        (changes.own state.threads state.objects thread holds))

  -- what holds where the next operation is pending, and the turn is over
  module _ (Between : State → Type 0)
      (waits : (state : State) (footprint : Footprint) (frame : Frame) (placed : Placed) →
      top footprint.thread ≡ Some frame → next_in setting.code frame ≡ Some placed → Within (put_back state number footprint) →
      Between (put_back state number (made_pending footprint placed.site (addresses_of frame placed.inst))))
      (over : (state : State) (thread : Thread) → slice_get state.threads number ≡ Some thread → has_ended thread ≡ true →
      Within state → Between state) where
    abbrev InStep : State → Step Footprint → Type 0
    InStep state step =
        StepKeeps (InFootprint state.threads) (λ (after : Footprint). Between (put_back state number after)) step

    next-keeps : (state : State) (footprint : Footprint) → InFootprint state.threads footprint →
        InStep state (next_step setting number footprint)
    unfolding next_step
    next-keeps state footprint holds = of_frame (top footprint.thread) refl
      where
        of_placed : (frame : Frame) (placed : Option Placed) → top footprint.thread ≡ Some frame →
            next_in setting.code frame ≡ placed → InStep state (next_step_at setting number footprint frame placed)
        of_placed frame None is next = tt
        of_placed frame (Some placed) is next =
            by_test (InStep state) (is_visible setting.watch footprint.thread placed.site placed.inst) _ _
            (λ h. waits state footprint frame placed is next holds)
            (λ h. effect-keeps state.threads (λ (after : Footprint). Between (put_back state number after)) footprint frame _ placed.inst holds)

        of_frame : (frame : Option Frame) → top footprint.thread ≡ frame →
            InStep state (next_step_in setting number footprint frame)
        of_frame None is = tt
        of_frame (Some frame) is = of_placed frame (next_in setting.code frame) is refl

    pub turn-ends : (state : State) (left : ℕ) → Within state →
        let turned = turn setting state number left in AtEnd Within Between turned.end turned.after
    turn-ends state left holds =
        turn-holds setting number Within Between
        (record {
          first = λ state thread holds.
              each-first_step (StepKeeps Within Between) setting state number thread thread.pending tt tt
              (λ numbers decided site frame inst. visible-keeps Between state thread frame decided inst holds);
          next = next-keeps;
          over = over;
        })
        state left holds

  -- of what says nothing of the turn's own thread
  pub turn-keeps : (state : State) (left : ℕ) → Within state → Within (turn setting state number left).after
  turn-keeps state left holds =
      let turned = turn setting state number left in
      at_each_end Within turned.end turned.after
      (turn-ends Within
      (λ state footprint frame placed is next holds. own-again state.threads footprint.thread _ footprint.objects holds)
      (λ state thread is over holds. holds)
      state left holds)
