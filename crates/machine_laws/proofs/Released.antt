-- A thread that is held with an access pending can be chosen as long as the others take turns.
use Rattle.std.proofs.Common.{◌≡◌, ◌≢◌, ℕ, zero, suc, Bool, true, false, cond, eqb, not, ◌&&◌, List, [], ◌∷◌, filter, length, Option, Some, None, refl, ap, ◌∙◌, arith, zero-add}
use Rattle.std.specs.Prelude.{Contains, slice_get}
use Rattle.std.specs.List.{range_with_len}
use Rattle.std.proofs.lemmas.List.Elements.{All-contains, filter_passes}
use Rattle.std.proofs.lemmas.List.FromFn.{get_or-range_with_len, length-range_with_len}
use Rattle.std.proofs.lemmas.Option.{slice_get_within}
use Rattle.ir_types.specs.declared.instruction.Inst.{Inst}
use Rattle.ir_types.specs.declared.instruction.Inst.TheVariants.{Load, Store}
use Rattle.ir_types.specs.declared.instruction.Site.{Site}
use Rattle.machine_model.specs.declared.access.Access.{Access}
use Rattle.machine_model.specs.declared.state.Frame.{Frame}
use Rattle.machine_model.specs.declared.state.Operation.{Operation}
use Rattle.machine_model.specs.declared.state.Operation.TheVariants.{Start, At, CondReturn, Nothing}
use Rattle.machine_model.specs.declared.state.State.{State}
use Rattle.machine_model.specs.declared.state.Thread.{Thread}
use Rattle.machine_model.specs.Access.{access_of, pending_of_state, pending_in, pending_inst, pending_of, pending_operation, pending_placed}
use Rattle.machine_model.specs.Code.{Placed, next_in}
use Rattle.machine_model.specs.Enabled.{enabled, is_enabled, may_run, has_to_wait, waits_at, waits_for, waits_in}
use Rattle.machine_model.specs.Moment.{Moment, access_at}
use Rattle.machine_model.specs.Setting.{Setting}
use Rattle.machine_model.specs.Shared.{Shared, shared_of}
use Rattle.machine_model.specs.System.{System, machine_of}
use Rattle.machine_model.specs.SystemLaws.{MayDo}
use Rattle.machine_model.specs.Thread.{has_ended, top}
use Rattle.machine_model.specs.Turn.{turn}
use Rattle.machine_model.proofs.Choices.{Contains-later}
use Rattle.machine_laws.proofs.Waiting.{Keeps, turn-keeps}

-- the thread of this number has not ended, and waits to do an access
record Ready (setting : Setting) (threads : List Thread) (number : ℕ) (access : Access) : Type 0 where
  thread : Thread
  is : slice_get threads number ≡ Some thread
  lasts : has_ended thread ≡ false
  accesses : access_of (pending_operation setting.code thread thread.pending) ≡ Some access

-- an access never has to wait
inst-runs : (shared : Shared) (number : ℕ) (site : Site) (decided : List ℕ) (inst : Inst) (access : Access) →
    access_of (pending_inst site decided inst) ≡ Some access → waits_for shared number decided inst ≡ false
unfolding waits_for
inst-runs shared number site decided (Load to kind at) access is = refl
inst-runs shared number site decided (Store kind value at) access is = refl
inst-runs shared number site decided inst access is = absurd (let h : ⊥ = cc in h)

placed-runs : (shared : Shared) (number : ℕ) (site : Site) (decided : List ℕ) (placed : Option Placed) (access : Access) →
    access_of (pending_placed site decided placed) ≡ Some access → waits_at shared number decided placed ≡ false
placed-runs shared number site decided None access is = refl
placed-runs shared number site decided (Some placed) access is = inst-runs shared number site decided placed.inst access is

frame-runs : (setting : Setting) (shared : Shared) (number : ℕ) (site : Site) (decided : List ℕ) (frame : Option Frame) (access : Access) →
    access_of (pending_in setting.code site decided frame) ≡ Some access → waits_in setting.code shared number decided frame ≡ false
frame-runs setting shared number site decided None access is = refl
frame-runs setting shared number site decided (Some frame) access is =
    placed-runs shared number site decided (next_in setting.code frame) access is

access-runs : (setting : Setting) (shared : Shared) (number : ℕ) (thread : Thread) (operation : Operation) (access : Access) →
    access_of (pending_operation setting.code thread operation) ≡ Some access → has_to_wait setting.code shared number thread operation ≡ false
unfolding has_to_wait pending_operation
access-runs setting shared number thread Start access is = refl
access-runs setting shared number thread (At site decided) access is = frame-runs setting shared number site decided (top thread) access is
access-runs setting shared number thread (CondReturn site decided) access is = refl
access-runs setting shared number thread Nothing access is = refl

-- what a thread waits to do is what its frames say
joined-alike : (setting : Setting) (thread : Thread) (joined : Bool) (operation : Operation) →
    pending_operation setting.code (record thread { joined = joined }) operation
    ≡ pending_operation setting.code thread operation
unfolding pending_operation
joined-alike setting thread joined Start = refl
joined-alike setting thread joined (At site decided) = refl
joined-alike setting thread joined (CondReturn site decided) = refl
joined-alike setting thread joined Nothing = refl

ready-kept : (setting : Setting) (number : ℕ) (access : Access) (before after : List Thread) →
    Keeps number before after → Ready setting before number access → Ready setting after number access
ready-kept setting number access before after keeps ready =
    let kept = keeps ready.thread ready.is in
    record {
      thread = record ready.thread { joined = kept.0 };
      is = kept.1;
      lasts = ready.lasts;
      accesses = ap access_of (joined-alike setting ready.thread kept.0 ready.thread.pending) ∙ ready.accesses;
    }

-- so it still waits to do that
ready-has_to_wait : (setting : Setting) (state : State) (number : ℕ) (access : Access) →
    Ready setting state.threads number access → access_of (pending_of_state setting.code state number) ≡ Some access
ready-has_to_wait setting state number access ready = rw ready.is ready.accesses

-- what passes is kept
Contains-filtered : (test : ℕ → Bool) (threads : List ℕ) (thread : ℕ) → Contains threads thread → test thread ≡ true →
    Contains (filter test threads) thread
Contains-filtered test [] thread among passes = absurd (omega (arith, among.1))
Contains-filtered test (first ∷ others) thread (zero, within, is) passes = rw (ap test is ∙ passes) (0, omega arith, is)
Contains-filtered test (first ∷ others) thread (suc place, within, is) passes =
    go (test first) (Contains-filtered test others thread (place, omega arith, is) passes)
  where
    go : (kept : Bool) → Contains (filter test others) thread →
        Contains (cond kept (first ∷ filter test others) (filter test others)) thread
    go true later = Contains-later first (filter test others) thread later
    go false later = later

-- and it is one of the enabled threads
ready-enabled : (setting : Setting) (state : State) (number : ℕ) (access : Access) →
    Ready setting state.threads number access → Contains (enabled setting.code state) number
unfolding enabled is_enabled
ready-enabled setting state number access ready =
    let count = length state.threads in
    let within = slice_get_within state.threads number ready.thread ready.is in
    let long = length-range_with_len 0 count in
    let passes : may_run setting.code (shared_of state) number (slice_get state.threads number) ≡ true =
    rw (ready.is, ready.lasts, access-runs setting (shared_of state) number ready.thread ready.thread.pending access ready.accesses) refl in
    Contains-filtered (is_enabled setting.code state) (range_with_len 0 count) number
    (number, omega (arith, within, long), get_or-range_with_len 0 count number number within ∙ zero-add number) passes

not-ended : (over has_to_wait : Bool) → (not over && not has_to_wait) ≡ true → over ≡ false
not-ended true has_to_wait is = absurd (let h : ⊥ = cc in h)
not-ended false has_to_wait is = refl

-- a thread that may run, with an access pending, is ready
access-ready : (setting : Setting) (state : State) (number : ℕ) (access : Access) (thread : Option Thread) →
    slice_get state.threads number ≡ thread → may_run setting.code (shared_of state) number thread ≡ true →
    access_of (pending_of setting.code thread) ≡ Some access → Ready setting state.threads number access
access-ready setting state number access None is runs accesses = absurd (let h : ⊥ = cc in h)
access-ready setting state number access (Some thread) is runs accesses = record {
  thread = thread;
  is = is;
  lasts = not-ended (has_ended thread) (has_to_wait setting.code (shared_of state) number thread thread.pending) runs;
  accesses = accesses;
}

pub may-run : (setting : Setting) (state : State) (number : ℕ) → Contains (enabled setting.code state) number →
    may_run setting.code (shared_of state) number (slice_get state.threads number) ≡ true
unfolding enabled is_enabled
may-run setting state number among =
    let threads = range_with_len 0 (length state.threads) in
    All-contains (λ thread. is_enabled setting.code state thread ≡ true) (filter (is_enabled setting.code state) threads) number
    (filter_passes (is_enabled setting.code state) threads) among

-- the turn of another thread leaves it so
pub machine-keeps : (setting : Setting) (state : State) (number other left : ℕ) (access : Access) → number ≢ other →
    MayDo (machine_of setting) state number access →
    MayDo (machine_of setting) (turn setting state other left).after number access
machine-keeps setting state number other left access apart may =
    let after = (turn setting state other left).after in
    let ready = access-ready setting state number access (slice_get state.threads number) refl
    (may-run setting state number may.may_run) may.waits in
    let kept = ready-kept setting number access state.threads after.threads (turn-keeps number other apart setting state left) ready in
    record { may_run = ready-enabled setting after number access kept; waits = ready-has_to_wait setting after number access kept }

accesses-unless : (spent : Bool) (found : Option Access) (access : Access) → cond spent None found ≡ Some access →
    found ≡ Some access
accesses-unless true found access is = absurd (let h : ⊥ = cc in h)
accesses-unless false found access is = is

-- the thread of a turn that does an access may do it
pub moment-may_do : {S : Type 0} (system : System S) (moment : Moment S) (access : Access) →
    Contains (system.enabled moment.before.state) moment.thread → access_at system moment ≡ Some access →
    MayDo system moment.before.state moment.thread access
moment-may_do system moment access among accesses = record {
  may_run = among;
  waits = accesses-unless (eqb moment.before.left 0)
      (access_of (system.pending moment.before.state moment.thread)) access accesses;
}
