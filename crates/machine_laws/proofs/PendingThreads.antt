-- Between turns, what a thread waits to run is its next instruction.
use Rattle.std.proofs.Common.{◌≡◌, ◌≢◌, ℕ, ◌<◌, ◌≤◌, Bool, true, false, ltb, eqb, List, [], ◌∷◌, ◌++◌, length, get_or, set, Some, refl, sym, ap, ◌∙◌, subst, arith, length-append, length-set, get_or-set_same}
use Rattle.std.specs.Prelude.{slice_get, All}
use Rattle.std.proofs.Math.ListN.{get_or-append}
use Rattle.std.proofs.Math.Seq.{get_or-append_seam}
use Rattle.std.proofs.lemmas.Bool.{eqb-false, eqb-true, false≢true, ltb-false, ltb-true}
use Rattle.std.proofs.lemmas.List.{get_or-set_other}
use Rattle.std.proofs.lemmas.List.Elements.{All-cons, All-nil}
use Rattle.std.proofs.lemmas.Option.{get_or_from_slice_get}
use Rattle.ir_types.specs.declared.«module».Module.{Module}
use Rattle.run_types.specs.declared.run.TurnEnd.TheVariants.{Going}
use Rattle.machine_model.specs.declared.state.Frame.{Frame}
use Rattle.machine_model.specs.declared.state.State.{State}
use Rattle.machine_model.specs.declared.state.Thread.{Thread}
use Rattle.machine_model.specs.Code.{Placed, next_in}
use Rattle.machine_model.specs.Decision.{addresses_of}
use Rattle.machine_model.specs.Effect.{Footprint}
use Rattle.machine_model.specs.Operation.{put_back}
use Rattle.machine_laws.specs.PendingLaws.{ArePending, IsNextAt, IsNextIn, IsPending, MomentsArePending, StartedArePending, TurnKeepsPending}
use Rattle.machine_model.specs.Setting.{Setting}
use Rattle.machine_model.specs.Step.{made_pending}
use Rattle.machine_model.specs.Thread.{has_ended, made, top}
use Rattle.machine_model.specs.System.{machine_of}
use Rattle.machine_model.specs.Turn.{turn}
use Rattle.machine_laws.proofs.Changes.{ChangesKeep, turn-ends}
use Rattle.machine_laws.proofs.Invariants.{AtEnd, moments-hold}

made-is_pending : (code : Module) (function : ℕ) (arguments : List ℕ) → IsPending code (made code function arguments)
made-is_pending code function arguments = λ live. tt

pub started-are_pending : StartedArePending
started-are_pending code = All-cons (IsPending code) _ [] (made-is_pending code code.main []) (All-nil (IsPending code))

-- while the thread of this number takes its turn, it holds of the others
module _ (setting : Setting) (number : ℕ) where
  abbrev Pends : Thread → Type 0
  Pends thread = IsPending setting.code thread

  abbrev OthersPend : List Thread → Type 0
  OthersPend threads = (k : ℕ) (d : Thread) → k ≢ number → k < length threads → Pends (get_or threads k d)

  abbrev Within : State → Type 0
  Within state = OthersPend state.threads

  abbrev Between : State → Type 0
  Between state = ArePending setting.code state

  others-set : (threads : List Thread) (thread : Thread) → OthersPend threads → OthersPend (set threads number thread)
  others-set threads thread pend = λ k d apart within.
      subst Pends (sym (get_or-set_other threads number k thread d apart))
      (pend k d apart (omega (arith, length-set threads number thread)))

  others-unset : (threads : List Thread) (thread : Thread) → OthersPend (set threads number thread) → OthersPend threads
  others-unset threads thread pend = λ k d apart within.
      subst Pends (get_or-set_other threads number k thread d apart)
      (pend k d apart (omega (arith, length-set threads number thread)))

  others-made : (threads : List Thread) (thread : Thread) → Pends thread → OthersPend threads → OthersPend (threads ++ thread ∷ [])
  others-made threads thread pends pend = λ k d apart within. go k d apart within (ltb k (length threads)) refl
    where
      go : (k : ℕ) (d : Thread) → k ≢ number → k < length (threads ++ thread ∷ []) → (old : Bool) → ltb k (length threads) ≡ old →
          Pends (get_or (threads ++ thread ∷ []) k d)
      go k d apart within true test =
          let old = ltb-true k (length threads) test in
          subst Pends (sym (get_or-append threads (thread ∷ []) d k old)) (pend k d apart old)
      go k d apart within false test =
          let new : length threads ≤ k = ltb-false k (length threads) test in
          let last : k ≡ length threads = omega (arith, length-append threads (thread ∷ [])) in
          subst Pends (sym (ap (λ n. get_or (threads ++ thread ∷ []) n d) last ∙ get_or-append_seam threads thread [] d)) pends

  others-joined : (threads : List Thread) (place : ℕ) (thread : Thread) → slice_get threads place ≡ Some thread →
      OthersPend threads → OthersPend (set threads place (record thread { joined = true }))
  others-joined threads place thread is pend = λ k d apart within. go k d apart within (eqb k place) refl
    where
      after : Thread
      after = record thread { joined = true }

      go : (k : ℕ) (d : Thread) → k ≢ number → k < length (set threads place after) → (same : Bool) → eqb k place ≡ same →
          Pends (get_or (set threads place after) k d)
      go k d apart within true test =
          let same = eqb-true k place test in
          let inside : k < length threads = omega (arith, length-set threads place after) in
          let old : Pends thread = subst Pends (ap (λ n. get_or threads n d) same ∙ get_or_from_slice_get threads place thread d is) (pend k d apart inside) in
          subst Pends (sym (ap (λ n. get_or (set threads place after) n d) same ∙ get_or-set_same threads place after d (omega (arith, same))))
          (λ live. old live)
      go k d apart within false test =
          subst Pends (sym (get_or-set_other threads place k after d (eqb-false k place test)))
          (pend k d apart (omega (arith, length-set threads place after)))

  others-keep : ChangesKeep setting number (λ threads objects. OthersPend threads)
  others-keep = record {
    own = λ threads objects thread pend. others-set threads thread pend;
    make = λ threads objects function arguments pend.
        others-made threads (made setting.code function arguments)
        (made-is_pending setting.code function arguments) pend;
    join = λ threads objects place thread is pend. others-joined threads place thread is pend;
    store = λ threads objects after at len bits stored pend. pend;
    death = λ threads bases objects pend. pend;
  }

  -- with the thread's own, it holds of all
  all-pend : (threads : List Thread) (thread : Thread) → Pends thread → OthersPend threads → All Pends (set threads number thread)
  all-pend threads thread pends pend = λ k d within. go k d within (eqb k number) refl
    where
      go : (k : ℕ) (d : Thread) → k < length (set threads number thread) → (same : Bool) → eqb k number ≡ same →
          Pends (get_or (set threads number thread) k d)
      go k d within true test =
          let same = eqb-true k number test in
          subst Pends (sym (ap (λ n. get_or (set threads number thread) n d) same
          ∙ get_or-set_same threads number thread d (omega (arith, same, length-set threads number thread)))) pends
      go k d within false test = others-set threads thread pend k d (eqb-false k number test) within

  waits-pend : (state : State) (footprint : Footprint) (frame : Frame) (placed : Placed) →
      top footprint.thread ≡ Some frame → next_in setting.code frame ≡ Some placed → Within (put_back state number footprint) →
      Between (put_back state number (made_pending footprint placed.site (addresses_of frame placed.inst)))
  waits-pend state footprint frame placed is next pend =
      all-pend state.threads _
      (λ live. subst (IsNextIn setting.code placed.site (addresses_of frame placed.inst)) (sym is)
      (subst (IsNextAt frame placed.site (addresses_of frame placed.inst)) (sym next) (refl, refl)))
      (others-unset state.threads footprint.thread pend)

  -- a thread that has ended waits to run nothing
  over-pends : (state : State) (thread : Thread) → slice_get state.threads number ≡ Some thread → has_ended thread ≡ true →
      Within state → Between state
  over-pends state thread is over pend = λ k d within. go k d within (eqb k number) refl
    where
      go : (k : ℕ) (d : Thread) → k < length state.threads → (same : Bool) → eqb k number ≡ same → Pends (get_or state.threads k d)
      go k d within true test =
          let same = eqb-true k number test in
          subst Pends (sym (ap (λ n. get_or state.threads n d) same ∙ get_or_from_slice_get state.threads number thread d is))
          (λ live. absurd (false≢true (sym live ∙ over)))
      go k d within false test = pend k d (eqb-false k number test) within

  turn-pends : (state : State) (left : ℕ) → Between state →
      let turned = turn setting state number left in turned.end ≡ Going → Between turned.after
  turn-pends state left pend going =
      let turned = turn setting state number left in
      subst (λ end. AtEnd Within Between end turned.after) going
      (turn-ends setting number (λ threads objects. OthersPend threads) others-keep Between waits-pend over-pends
      state left (λ k d apart within. pend k d within))

pub turn-keeps_pending : TurnKeepsPending
turn-keeps_pending setting state number left pend going = turn-pends setting number state left pend going

pub moments-are_pending : MomentsArePending
moments-are_pending setting listed steps =
    moments-hold (machine_of setting) (ArePending setting.code) (turn-keeps_pending setting) listed steps (started-are_pending setting.code)
