-- A thread that waits for its turn is left as it is by the turns of the others, but for being joined.
use Rattle.std.proofs.Common.{◌≡◌, ◌≢◌, ℕ, zero, suc, Bool, true, false, eqb, List, ◌∷◌, [], ◌++◌, Some, refl, ◌∙◌}
use Rattle.std.specs.Prelude.{slice_get, slice_set}
use Rattle.std.proofs.lemmas.Bool.{eqb-false, eqb-true}
use Rattle.machine_model.specs.declared.state.State.{State}
use Rattle.machine_model.specs.declared.state.Thread.{Thread}
use Rattle.machine_model.specs.Setting.{Setting}
use Rattle.machine_model.specs.Thread.{made}
use Rattle.machine_model.specs.Turn.{turn}
use Rattle.machine_laws.proofs.Changes.{turn-keeps as turn-keeps_changes}
use Rattle.machine_model.proofs.Places.{slice_get-other, slice_get-own}

-- the thread of this number is the same in both states, but for being joined
abbrev pub Keeps : ℕ → List Thread → List Thread → Type 0
Keeps waiting before after =
    (thread : Thread) → slice_get before waiting ≡ Some thread →
    (joined : Bool) × (slice_get after waiting ≡ Some (record thread { joined = joined }))

pub keeps-itself : (waiting : ℕ) (threads : List Thread) → Keeps waiting threads threads
keeps-itself waiting threads thread is = (thread.joined, is)

pub keeps-on : (waiting : ℕ) (one two three : List Thread) → Keeps waiting one two → Keeps waiting two three →
    Keeps waiting one three
keeps-on waiting one two three first second thread is =
    let kept = first thread is in second (record thread { joined = kept.0 }) kept.1

slice_get-front : {X : Type 0} (xs : List X) (i : ℕ) (x old : X) → slice_get xs i ≡ Some old →
    slice_get (xs ++ x ∷ []) i ≡ Some old
slice_get-front [] i x old is = absurd (let h : ⊥ = cc in h)
slice_get-front (first ∷ xs) zero x old is = is
slice_get-front (first ∷ xs) (suc i) x old is = slice_get-front xs i x old is

pub keeps-set : (waiting number : ℕ) (threads : List Thread) (other : Thread) → waiting ≢ number →
    Keeps waiting threads (slice_set threads number other)
keeps-set waiting number threads other apart thread is =
    (thread.joined, slice_get-other threads number waiting other apart ∙ is)

keeps-made : (waiting : ℕ) (threads : List Thread) (other : Thread) → Keeps waiting threads (threads ++ other ∷ [])
keeps-made waiting threads other thread is = (thread.joined, slice_get-front threads waiting other thread is)

keeps-joined : (waiting number : ℕ) (threads : List Thread) (other : Thread) → slice_get threads number ≡ Some other →
    Keeps waiting threads (slice_set threads number (record other { joined = true }))
keeps-joined waiting number threads other there thread is = go (eqb waiting number) refl
  where
    after : List Thread
    after = slice_set threads number (record other { joined = true })

    go : (same : Bool) → eqb waiting number ≡ same →
        (joined : Bool) × (slice_get after waiting ≡ Some (record thread { joined = joined }))
    go true test =
        let same = eqb-true waiting number test in
        let own : other ≡ thread = let is_other = rw same at is in cc in
        (true, rw (same, ← own) (slice_get-own threads number (record other { joined = true }) other there))
    go false test = keeps-set waiting number threads (record other { joined = true }) (eqb-false waiting number test) thread is

pub turn-keeps : (waiting number : ℕ) (apart : waiting ≢ number) (setting : Setting) (state : State) (left : ℕ) →
    Keeps waiting state.threads (turn setting state number left).after.threads
turn-keeps waiting number apart setting state left =
    turn-keeps_changes setting number (λ threads objects. Keeps waiting state.threads threads)
    (record {
      own = λ threads objects thread keeps.
          keeps-on waiting state.threads threads _ keeps (keeps-set waiting number threads thread apart);
      make = λ threads objects function arguments keeps.
          keeps-on waiting state.threads threads _ keeps (keeps-made waiting threads (made setting.code function arguments));
      join = λ threads objects place thread is keeps.
          keeps-on waiting state.threads threads _ keeps (keeps-joined waiting place threads thread is);
      store = λ threads objects after at len bits stored keeps. keeps;
      death = λ threads bases objects keeps. keeps;
    })
    state left (keeps-itself waiting state.threads)
