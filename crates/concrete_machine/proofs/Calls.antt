-- What the calls do to the state is what the definitions say of what is shared.
use Rattle.std.proofs.Common.{◌≡◌, ℕ, zero, suc, ◌<◌, ◌≤◌, Bool, true, false, cond, leb, List, ◌∷◌, [], ◌++◌, length, Option, Some, None, refl, sym, ap, subst, ◌∙◌, arith}
use Rattle.std.specs.Prelude.{option_map, slice_get, slice_set, unwrap_or, Ok, Err}
use Rattle.std.proofs.lemmas.Bool.{le-leb, lt-leb}
use Rattle.std.proofs.lemmas.Grind.{common_steps}
use Rattle.std.proofs.lemmas.List.{length-map, map-append, map-set}
use Rattle.std.proofs.lemmas.Option.{slice_get-map}
use Rattle.ir_types.specs.declared.«module».Module.{Module}
use Rattle.machine_model.specs.declared.state.Object.{Object}
use Rattle.machine_model.specs.declared.state.State.{State}
use Rattle.machine_model.specs.declared.state.Thread.{Thread}
use Rattle.run_types.specs.declared.trap.Trap.{Trap}
use Rattle.run_types.specs.declared.trap.Trap.TheVariants.{BadJoin}
use Rattle.machine_model.specs.Call.{again, created, joined, joined_or_traps, most_threads, with_result}
use Rattle.machine_model.specs.Effect.Effect.{Traps}
use Rattle.machine_model.specs.Memory.{written}
use Rattle.machine_model.specs.Operation.{changed_by}
use Rattle.machine_model.specs.Shared.{end_of, shared_of}
use Rattle.machine_model.specs.Thread.{made}
use Rattle.machine_model.proofs.CallStates.{state-joined, state-made, state-stays}
use Rattle.concrete_machine.specs.declared.call.Called.TheVariants as calls
use Rattle.concrete_machine.specs.Call.{Calls, KeepsFrames, frames_of, joinable, stored, trap_or}

-- a call that changes nothing
pub state_stays : (state : State) (others : List Thread) → state ≡ changed_by state others (shared_of state)
state_stays state others = sym (state-stays state others)

pub frames-front : (before after : List Thread) (other : Thread) → after ≡ before ++ other ∷ [] → KeepsFrames before after
frames-front before after other is number within =
    ap (λ (threads : List Thread). frames_of (slice_get threads number)) is ∙ ap frames_of (front before number within)
  where
    front : (threads : List Thread) (place : ℕ) → place < length threads →
        slice_get (threads ++ other ∷ []) place ≡ slice_get threads place
    front [] place within = absurd (omega arith)
    front (first ∷ threads) zero within = refl
    front (first ∷ threads) (suc place) within = front threads place (omega arith)

-- a thread at the limit
pub calls-full : (before : State) (others : List Thread) (at : ℕ) → most_threads ≤ length before.threads →
    Calls (calls.Returns (Some again) None) others before before (created (shared_of before) at)
calls-full before others at full =
    let full_ends : leb most_threads (length before.threads) ≡ true = le-leb _ _ full in
    (rw (length-map before.threads end_of, full_ends) refl, state_stays before others)

pub calls-made : (before after : State) (at : ℕ) (objects : List Object) (code : Module) (function argument : ℕ) →
    length before.threads < most_threads → written before.objects at 8 (length before.threads) ≡ Ok objects →
    let other = made code function (argument ∷ []) in
    after ≡ record before { threads = before.threads ++ other ∷ []; objects = objects } →
    Calls (calls.Returns (Some 0) None) (other ∷ []) before after (created (shared_of before) at)
calls-made before after at objects code function argument few stores is =
    let other = made code function (argument ∷ []) in
    let free : leb most_threads (length before.threads) ≡ false = lt-leb _ _ few in
    subst (λ (state : State). Calls (calls.Returns (Some 0) None) (other ∷ []) before state (created (shared_of before) at)) (sym is) (
      rw (length-map before.threads end_of, free, stores, map-append end_of before.threads (other ∷ [])) refl,
      rw (map-append end_of before.threads (other ∷ [])) (sym (state-made before other objects)),
    )

-- a thread that can't be joined
pub calls-unjoinable : (before : State) (others : List Thread) (number at : ℕ) (trap : Trap) →
    joinable (slice_get before.threads number) ≡ None →
    ((result : ℕ) → trap ≡ trap_or BadJoin (stored before.objects at result)) →
    Calls (calls.Traps trap) others before before (joined (shared_of before) number at)
calls-unjoinable before others number at trap none tells =
    (rw slice_get-map (of_thread (slice_get before.threads number) none), refl)
  where
    of_thread : (thread : Option Thread) → joinable thread ≡ None →
        let end = option_map end_of thread in
        joined_or_traps (shared_of before) number end (with_result before.objects end at) ≡ Traps trap
    of_thread None none = let is = tells 0 in grind (arith, common_steps)
    of_thread (Some thread) none = let is = tells (unwrap_or thread.ended 0) in grind (arith, common_steps)

open_one : (joined : Bool) (ended result : ℕ) → cond joined None (Some ended) ≡ Some result → (joined ≡ false) × (ended ≡ result)
open_one true ended result is = absurd (let h : ⊥ = cc in h)
open_one false ended result is = (refl, cc)

-- the thread to be joined, with its result
pub found-joinable : (thread : Option Thread) (result : ℕ) → joinable thread ≡ Some result →
    (found : Thread) × (thread ≡ Some found) × (found.joined ≡ false) × (unwrap_or found.ended 0 ≡ result)
found-joinable None result is = absurd (let h : ⊥ = cc in h)
found-joinable (Some found) result is =
    let facts = open_one found.joined (unwrap_or found.ended 0) result is in (found, refl, facts.0, facts.1)

pub calls-not_stored : (before : State) (others : List Thread) (number at result : ℕ) (trap : Trap) →
    joinable (slice_get before.threads number) ≡ Some result → stored before.objects at result ≡ Err trap →
    Calls (calls.Traps trap) others before before (joined (shared_of before) number at)
calls-not_stored before others number at result trap may refused =
    let found = found-joinable (slice_get before.threads number) result may in
    (rw (slice_get-map, found.1, found.3, refused) refl, refl)

pub calls-joined : (before after : State) (others : List Thread) (number at result : ℕ) (objects : List Object) (thread : Thread) →
    slice_get before.threads number ≡ Some thread → joinable (slice_get before.threads number) ≡ Some result →
    stored before.objects at result ≡ Ok objects →
    after ≡ record before { threads = slice_set before.threads number (record thread { joined = true }); objects = objects } →
    Calls (calls.Returns (Some 0) None) others before after (joined (shared_of before) number at)
calls-joined before after others number at result objects thread there may stores is =
    let facts = open_one thread.joined (unwrap_or thread.ended 0) result (rw there at may) in
    let marked : Thread = record thread { joined = true } in
    let answer : stored before.objects at (unwrap_or thread.ended 0) ≡ Ok objects = rw facts.1 stores in
    subst (λ (state : State). Calls (calls.Returns (Some 0) None) others before state (joined (shared_of before) number at)) (sym is) (
      rw (slice_get-map end_of before.threads number, there, answer, facts.0, map-set end_of before.threads number marked) refl,
      rw (map-set end_of before.threads number marked) (sym (state-joined before others number thread objects there)),
    )
