-- The state that a call leaves, by what it left of what is shared.
use Rattle.std.proofs.Common.{◌≡◌, ℕ, zero, suc, true, false, ltb, List, ◌∷◌, [], ◌++◌, length, map, Some, refl, ap, ◌∙◌, arith, length-append}
use Rattle.std.specs.Prelude.{slice_get, slice_set}
use Rattle.std.proofs.lemmas.Bool.{le-ltb, lt-ltb}
use Rattle.std.proofs.lemmas.List.{length-map, length-set}
use Rattle.machine_model.specs.declared.state.Object.{Object}
use Rattle.machine_model.specs.declared.state.State.{State}
use Rattle.machine_model.specs.declared.state.Thread.{Thread}
use Rattle.machine_model.specs.Operation.{changed_by}
use Rattle.machine_model.specs.Shared.{End, end_of, open_end, shared_of, with_end, with_ends}

ends-same : (threads : List Thread) → with_ends threads (map end_of threads) ≡ threads
ends-same [] = refl
ends-same (thread ∷ threads) = ap (λ (rest : List Thread). thread ∷ rest) (ends-same threads)

ends-front : (threads : List Thread) (others : List End) → with_ends threads (map end_of threads ++ others) ≡ threads
ends-front [] others = refl
ends-front (thread ∷ threads) others = ap (λ (rest : List Thread). thread ∷ rest) (ends-front threads others)

ends-joined : (threads : List Thread) (place : ℕ) (thread : Thread) → slice_get threads place ≡ Some thread →
    with_ends threads (slice_set (map end_of threads) place (record (end_of thread) { joined = true }))
    ≡ slice_set threads place (record thread { joined = true })
ends-joined [] place thread is = refl
ends-joined (first ∷ threads) zero thread is =
    let own : first ≡ thread = cc in
    ap (λ (one : Thread). with_end one (record (end_of thread) { joined = true }) ∷ with_ends threads (map end_of threads)) own
    ∙ ap (λ (rest : List Thread). record thread { joined = true } ∷ rest) (ends-same threads)
ends-joined (first ∷ threads) (suc place) thread is =
    ap (λ (rest : List Thread). first ∷ rest) (ends-joined threads place thread is)

-- no thread was created
state-kept : (state : State) (others threads : List Thread) (ends : List End) (objects : List Object) →
    with_ends state.threads ends ≡ threads → length ends ≡ length state.threads →
    changed_by state others (record (shared_of state) { objects = objects; ends = ends })
    ≡ record state { threads = threads; objects = objects }
unfolding changed_by
state-kept state others threads ends objects put count =
    let none : ltb (length state.threads) (length ends) ≡ false = le-ltb _ _ (omega arith) in rw (none, put) refl

-- where nothing changed of what is shared, nothing did
pub state-stays : (state : State) (others : List Thread) → changed_by state others (shared_of state) ≡ state
state-stays state others =
    state-kept state others state.threads (map end_of state.threads) state.objects (ends-same state.threads)
    (length-map state.threads end_of)

-- with one end more it has the thread that was created
pub state-made : (state : State) (other : Thread) (objects : List Object) →
    changed_by state (other ∷ []) (record (shared_of state) { objects = objects; ends = map end_of state.threads ++ open_end ∷ [] })
    ≡ record state { threads = state.threads ++ other ∷ []; objects = objects }
unfolding changed_by
state-made state other objects =
    let ends = map end_of state.threads ++ open_end ∷ [] in
    let long = length-map state.threads end_of in
    let more = length-append (map end_of state.threads) (open_end ∷ []) in
    let some : ltb (length state.threads) (length ends) ≡ true = lt-ltb _ _ (omega arith) in
    rw (some, ends-front state.threads (open_end ∷ [])) refl

-- an end that is joined is that of a thread which is
pub state-joined : (state : State) (others : List Thread) (place : ℕ) (thread : Thread) (objects : List Object) →
    slice_get state.threads place ≡ Some thread →
    let ends = slice_set (map end_of state.threads) place (record (end_of thread) { joined = true }) in
    changed_by state others (record (shared_of state) { objects = objects; ends = ends })
    ≡ record state { threads = slice_set state.threads place (record thread { joined = true }); objects = objects }
state-joined state others place thread objects is =
    let joined : End = record (end_of thread) { joined = true } in
    state-kept state others _ _ objects (ends-joined state.threads place thread is)
    (length-set (map end_of state.threads) place joined ∙ length-map state.threads end_of)
