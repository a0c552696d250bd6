-- Rows of threads that have one frame each, whose block is whole from its place on: each row is there, and leaves such
-- threads.
use Rattle.std.proofs.Common.{◌≡◌, ℕ, ◌<◌, Bool, true, false, eqb, leb, List, [], ◌∷◌, ◌++◌, length, map, Option, Some, None, Result, Ok, Err, refl, sym, ap, ◌∙◌, subst, arith, length-append, length-set}
use Rattle.std.specs.Prelude.{All, option_map, slice_get, slice_index, slice_set}
use Rattle.std.specs.List.{list_all}
use Rattle.std.proofs.lemmas.Bool.{false≢true, ltb-true, true≢false}
use Rattle.std.proofs.lemmas.List.Elements.{All-append, All-cons, All-nil, All-set}
use Rattle.std.proofs.lemmas.Option.{slice_get-map}
use Rattle.ir_types.specs.declared.external.Extern.{Extern}
use Rattle.ir_types.specs.declared.external.Extern.TheVariants.{Create, Join, Putchar}
use Rattle.ir_types.specs.declared.instruction.Inst.{Inst}
use Rattle.ir_types.specs.declared.instruction.Inst.TheVariants.{Binary, Load, Store, External, Ret}
use Rattle.ir_types.specs.declared.instruction.Site.{Site}
use Rattle.ir_types.specs.declared.«module».Module.{Module}
use Rattle.ir_types.specs.Kind.{size_of}
use Rattle.machine_model.specs.declared.state.Frame.{Frame}
use Rattle.machine_model.specs.declared.state.Object.{Object}
use Rattle.machine_model.specs.declared.state.State.{State}
use Rattle.machine_model.specs.declared.state.Thread.{Thread}
use Rattle.run_types.specs.declared.trap.Trap.{Trap}
use Rattle.machine_model.specs.Call.{Returned, call_of, created, joined, joined_or_traps, most_threads, with_result}
use Rattle.machine_model.specs.Effect.{Effect, Footprint, done_or_traps, mapped}
use Rattle.machine_model.specs.Effect.Effect.{Done, Pauses, Exits, Traps, Blocks, NoRow}
use Rattle.machine_model.specs.Enabled.{waits_for}
use Rattle.machine_model.specs.Instruction.{address_in, done_unless, effect_of, test_in, trap_of_test}
use Rattle.machine_model.specs.Memory.{read, written}
use Rattle.machine_model.specs.Operation.{after_call, changed_by, charged_for_items, ended, ends_with, footprint_of, is_last_frame, is_visible, is_visible_call, made_by, put_back, visible_effect, with_frame}
use Rattle.machine_model.specs.Rows.{HasRows, ends_block, has_row, has_row_of_call}
use Rattle.machine_model.specs.Setting.{Setting}
use Rattle.machine_model.specs.Shared.{end_of, shared_of}
use Rattle.machine_model.specs.Step.{next_step}
use Rattle.machine_model.specs.Thread.{has_ended, made, moved_on, moved_on_after, top, value_of, with_top}
use Rattle.machine_model.proofs.CallStates.{state-joined, state-made, state-stays}
use Rattle.machine_model.proofs.Cases.{by_test}
use Rattle.machine_laws.proofs.Charges.{EffectGoes, StepGoes}
use Rattle.machine_model.proofs.Places.{All-slice_get}
use Rattle.machine_laws.proofs.WholeBlocks.{IsWhole, entered-whole, whole-next}

-- a thread that goes on has one frame, and the frame's block is whole from its place on
pub record Runs (code : Module) (frames : List Frame) : Type 0 where
  pub frame : Frame
  pub only : frames ≡ frame ∷ []
  pub whole : IsWhole code frame

abbrev pub IsSound : Module → Thread → Type 0
IsSound code thread = has_ended thread ≡ false → Runs code thread.frames

pub made-sound : (code : Module) (function : ℕ) (arguments : List ℕ) → HasRows code → function < length code.functions →
    IsSound code (made code function arguments)
made-sound code function arguments rows within =
    λ live. record { frame = _; only = refl; whole = entered-whole code function arguments rows within }

-- so it is of all threads, and a thread of this number is there
pub record AreSound (code : Module) (number : ℕ) (threads : List Thread) : Type 0 where
  pub sound : All (IsSound code) threads
  pub inside : number < length threads

-- the instructions with rows that change only their thread and the objects
abbrev is_plain : Inst → Bool
is_plain (Binary to op a b) = true
is_plain (Load to kind at) = true
is_plain (Store kind value at) = true
is_plain inst = false

-- the others are visible
visible-call : (code : Module) (which : Extern) → has_row_of_call code which ≡ true → is_visible_call which ≡ true
unfolding has_row_of_call is_visible_call
visible-call code (Create function) row = refl
visible-call code Join row = refl
visible-call code Putchar row = refl
visible-call code _ row = absurd (false≢true row)

hidden-is_plain : (code : Module) (watch : List Site) (thread : Thread) (site : Site) (inst : Inst) → has_row code inst ≡ true →
    is_last_frame thread ≡ true → is_visible watch thread site inst ≡ false → is_plain inst ≡ true
unfolding has_row is_visible
hidden-is_plain code watch thread site (Ret value) row last hidden = absurd (true≢false (sym last ∙ hidden))
hidden-is_plain code watch thread site (External to which arguments) row last hidden =
    absurd (true≢false (sym (visible-call code which row) ∙ hidden))
hidden-is_plain code watch thread site _ row last hidden = row

moved-runs : (code : Module) (thread : Thread) (frame : Frame) → Runs code thread.frames → IsWhole code frame →
    Runs code (with_top thread frame).frames
moved-runs code thread frame runs whole = record { frame = frame; only = rw runs.only refl; whole = whole }

after-whole : (code : Module) (frame : Frame) (to result : Option ℕ) → IsWhole code (moved_on frame) →
    IsWhole code (moved_on_after frame to result)
after-whole code frame (Some register) (Some value) whole = whole
after-whole code frame (Some register) None whole = whole
after-whole code frame None result whole = whole

done_or_traps-goes : {A S : Type 0} (P : S → Type 0) (after : A → S) (result : Result A Trap) → ((value : A) → P (after value)) →
    EffectGoes P (done_or_traps after result)
done_or_traps-goes P after (Ok value) holds = holds value
done_or_traps-goes P after (Err trap) holds = tt

done_unless-goes : {S : Type 0} (P : S → Type 0) (after : S) (trap : Option Trap) → P after → EffectGoes P (done_unless after trap)
done_unless-goes P after None holds = holds
done_unless-goes P after (Some trap) holds = tt

module _ (setting : Setting) (number : ℕ) where
  abbrev pub RunsOn : Footprint → Type 0
  RunsOn footprint = Runs setting.code footprint.thread.frames

  effect-goes : (footprint : Footprint) (frame : Frame) (decided : List ℕ) (inst : Inst) → RunsOn footprint → is_plain inst ≡ true →
      (ends_block inst ≡ false → IsWhole setting.code (moved_on frame)) → EffectGoes RunsOn (effect_of setting number footprint frame decided inst)
  unfolding effect_of ends_block
  effect-goes footprint frame decided (Binary to op a b) runs plain on =
      done_unless-goes RunsOn _ (trap_of_test op (test_in decided)) (moved-runs setting.code footprint.thread _ runs (on refl))
  effect-goes footprint frame decided (Load to kind at) runs plain on =
      done_or_traps-goes RunsOn _ (read footprint.objects (address_in decided) (size_of kind))
      (λ value. moved-runs setting.code footprint.thread _ runs (on refl))
  effect-goes footprint frame decided (Store kind value at) runs plain on =
      done_or_traps-goes RunsOn _ (written footprint.objects (address_in decided) (size_of kind) _)
      (λ objects. moved-runs setting.code footprint.thread _ runs (on refl))
  effect-goes footprint frame decided _ runs plain on = absurd (false≢true plain)

  pub next-goes : (footprint : Footprint) → RunsOn footprint → StepGoes RunsOn (next_step setting number footprint)
  unfolding next_step
  next-goes footprint runs =
      let next = whole-next setting.code runs.frame runs.whole in
      let last : is_last_frame footprint.thread ≡ true = rw runs.only refl in
      let top_is : top footprint.thread ≡ Some runs.frame = rw runs.only refl in
      rw (top_is, next.is)
      (by_test (StepGoes RunsOn) (is_visible setting.watch footprint.thread next.placed.site next.placed.inst) _ _
      (λ h. runs)
      (λ h. effect-goes footprint runs.frame _ next.placed.inst runs
      (hidden-is_plain setting.code setting.watch footprint.thread next.placed.site next.placed.inst next.row last h) next.on))

  abbrev pub Holds : State → Type 0
  Holds state = AreSound setting.code number state.threads

  pub set-holds : (threads : List Thread) (place : ℕ) (thread : Thread) → AreSound setting.code number threads →
      IsSound setting.code thread → AreSound setting.code number (slice_set threads place thread)
  set-holds threads place thread are is = record {
    sound = All-set (IsSound setting.code) threads place thread is are.sound;
    inside = omega (arith, length-set threads place thread, are.inside);
  }

  -- a call, after which its thread goes on
  module _ (rows : HasRows setting.code) (state : State) (frame : Frame) (to : Option ℕ) (holds : Holds state)
      (whole : IsWhole setting.code (moved_on frame)) where
    CallHolds : List Thread → Returned → Type 0
    CallHolds others call = Holds (after_call state others number frame to call)

    call-holds : (others : List Thread) (call : Returned) (threads : List Thread) (objects : List Object) →
        changed_by state others call.shared ≡ record state { threads = threads; objects = objects } →
        AreSound setting.code number threads → CallHolds others call
    unfolding CallHolds
    call-holds others call threads objects is are = rw is (go (slice_get threads number) refl)
      where
        go : (thread : Option Thread) → slice_get threads number ≡ thread →
            Holds (with_frame (record state { threads = threads; objects = objects }) number (moved_on_after frame to call.result) thread)
        go None there = are
        go (Some thread) there = set-holds threads number _ are (λ live.
            moved-runs setting.code thread _ (All-slice_get (IsSound setting.code) threads number thread are.sound there live)
            (after-whole setting.code frame to call.result whole))

    stays-holds : (others : List Thread) (call : Returned) → call.shared ≡ shared_of state → CallHolds others call
    stays-holds others call is =
        call-holds others call state.threads state.objects (ap (changed_by state others) is ∙ state-stays state others) holds

    created-goes : (function argument at : ℕ) → function < length setting.code.functions →
        EffectGoes (CallHolds (made setting.code function (argument ∷ []) ∷ [])) (created (shared_of state) at)
    created-goes function argument at within =
        by_test (EffectGoes (CallHolds (other ∷ []))) (leb most_threads (length (map end_of state.threads))) _ _
        (λ h. stays-holds (other ∷ []) _ refl)
        (λ h. done_or_traps-goes (CallHolds (other ∷ [])) _ (written state.objects at 8 (length (map end_of state.threads)))
        (λ objects. call-holds (other ∷ []) _ (state.threads ++ other ∷ []) objects (state-made state other objects) are))
      where
        other : Thread
        other = made setting.code function (argument ∷ [])

        are : AreSound setting.code number (state.threads ++ other ∷ [])
        are = record {
          sound = All-append (IsSound setting.code) state.threads (other ∷ []) holds.sound
              (All-cons (IsSound setting.code) other [] (made-sound setting.code function (argument ∷ []) rows within) (All-nil (IsSound setting.code)));
          inside = omega (arith, length-append state.threads (other ∷ []), holds.inside);
        }

    joined-goes : (others : List Thread) (place at : ℕ) → EffectGoes (CallHolds others) (joined (shared_of state) place at)
    joined-goes others place at =
        subst (λ end. EffectGoes (CallHolds others) (joined_or_traps (shared_of state) place end (with_result state.objects end at)))
        (sym (slice_get-map end_of state.threads place)) (go (slice_get state.threads place) refl _)
      where
        go : (thread : Option Thread) → slice_get state.threads place ≡ thread → (result : Result (List Object) Trap) →
            EffectGoes (CallHolds others) (joined_or_traps (shared_of state) place (option_map end_of thread) result)
        go thread is (Err trap) = tt
        go None is (Ok objects) = tt
        go (Some thread) is (Ok objects) =
            by_test (EffectGoes (CallHolds others)) thread.joined _ _ (λ h. tt)
            (λ h. call-holds others _ (slice_set state.threads place (record thread { joined = true })) objects
            (state-joined state others place thread objects is)
            (set-holds state.threads place _ holds (All-slice_get (IsSound setting.code) state.threads place thread holds.sound is)))

    call-goes : (which : Extern) (values decided : List ℕ) → has_row_of_call setting.code which ≡ true →
        EffectGoes (CallHolds (made_by setting.code which values)) (call_of (shared_of state) number which values decided)
    unfolding call_of made_by has_row_of_call
    call-goes (Create function) values decided row =
        created-goes function (slice_index values 2) (slice_index decided 0) (ltb-true function (length setting.code.functions) row)
    call-goes Join values decided row = joined-goes [] (slice_index decided 0) (slice_index decided 1)
    call-goes Putchar values decided row = stays-holds [] _ refl
    call-goes _ values decided row = absurd (false≢true row)

  -- what is printed is charged too
  charged_for_items-goes : (after : Returned → State) (effect : Effect Returned) → EffectGoes (λ call. Holds (after call)) effect →
      EffectGoes Holds (charged_for_items after effect)
  charged_for_items-goes after (Done more call) goes = goes
  charged_for_items-goes after (Pauses more call) goes = goes
  charged_for_items-goes after (Exits more status call) goes = goes
  charged_for_items-goes after (Traps trap) goes = goes
  charged_for_items-goes after Blocks goes = goes
  charged_for_items-goes after NoRow goes = goes

  mapped-goes : (state : State) (effect : Effect Footprint) → Holds state → EffectGoes RunsOn effect →
      EffectGoes Holds (mapped (put_back state number) effect)
  mapped-goes state (Done more after) holds runs = set-holds state.threads number after.thread holds (λ live. runs)
  mapped-goes state (Pauses more after) holds runs = set-holds state.threads number after.thread holds (λ live. runs)
  mapped-goes state (Exits more status after) holds runs = set-holds state.threads number after.thread holds (λ live. runs)
  mapped-goes state (Traps trap) holds runs = runs
  mapped-goes state Blocks holds runs = runs
  mapped-goes state NoRow holds runs = runs

  ends-go : (state : State) (thread : Thread) (frame : Frame) (result : ℕ) → Holds state →
      EffectGoes Holds (ends_with state number thread frame result)
  ends-go state thread frame result holds =
      by_test (EffectGoes Holds) (eqb number 0) _ _ (λ h. holds)
      (λ h. by_test (EffectGoes Holds) (list_all has_ended (slice_set state.threads number (ended thread result))) _ _
      (λ h. after) (λ h. after))
    where
      after : AreSound setting.code number (slice_set state.threads number (ended thread result))
      after = set-holds state.threads number (ended thread result) holds (λ live. absurd (true≢false live))

  -- a visible instruction that does not have to wait
  pub visible-goes : HasRows setting.code → (state : State) (thread : Thread) (frame : Frame) (decided : List ℕ) (inst : Inst) →
      Holds state → Runs setting.code thread.frames → has_row setting.code inst ≡ true →
      (ends_block inst ≡ false → IsWhole setting.code (moved_on frame)) →
      waits_for (shared_of state) number decided inst ≡ false →
      EffectGoes Holds (visible_effect setting state number thread frame decided inst)
  unfolding visible_effect has_row ends_block waits_for CallHolds
  visible-goes rows state thread frame decided (Ret value) holds runs row on free = ends-go state thread frame _ holds
  visible-goes rows state thread frame decided (External to which arguments) holds runs row on free =
      let values = map (value_of frame) arguments in
      rw free
      (charged_for_items-goes (after_call state (made_by setting.code which values) number frame to)
      (call_of (shared_of state) number which values decided)
      (call-goes rows state frame to holds (on refl) which values decided row))
  visible-goes rows state thread frame decided inst holds runs row on free =
      mapped-goes state (effect_of setting number (footprint_of state thread) frame decided inst) holds
      (effect-goes (footprint_of state thread) frame decided inst runs row on)
