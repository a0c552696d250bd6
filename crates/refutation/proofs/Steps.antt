-- The steps of clauses and their hints.
use Rattle.std.proofs.Common.{◌≡◌, ℕ, zero, suc, ℤ, List, [], ◌∷◌, ◌++◌, length, Some, None, refl, ap, ◌∙◌, arith}
use Rattle.std.specs.Prelude.{slice_get}
use Rattle.refutation.specs.Log.{clauses_of, log_step, steps_of}

pub length_steps : (clauses : List (List ℤ)) (hints : List (List ℕ)) → length clauses ≡ length hints →
    length (steps_of clauses hints) ≡ length clauses
length_steps [] [] e = refl
length_steps [] (row ∷ rows) e = refl
length_steps (clause ∷ clauses) [] e = absurd (omega (arith, e))
length_steps (clause ∷ clauses) (row ∷ rows) e = ap (λ n. suc n) (length_steps clauses rows (omega (arith, e)))

pub clauses_steps : (clauses : List (List ℤ)) (hints : List (List ℕ)) → length clauses ≡ length hints →
    clauses_of (steps_of clauses hints) ≡ clauses
clauses_steps [] [] e = refl
clauses_steps [] (row ∷ rows) e = refl
clauses_steps (clause ∷ clauses) [] e = absurd (omega (arith, e))
clauses_steps (clause ∷ clauses) (row ∷ rows) e = ap (λ rest. clause ∷ rest) (clauses_steps clauses rows (omega (arith, e)))

pub step_none : (clauses : List (List ℤ)) (hints : List (List ℕ)) (at : ℕ) → length clauses ≡ length hints →
    slice_get clauses at ≡ None → slice_get (steps_of clauses hints) at ≡ None
step_none [] [] at e none = refl
step_none [] (row ∷ rows) at e none = refl
step_none (clause ∷ clauses) [] at e none = refl
step_none (clause ∷ clauses) (row ∷ rows) zero e none = absurd (cc)
step_none (clause ∷ clauses) (row ∷ rows) (suc at) e none = step_none clauses rows at (omega (arith, e)) none

pub step_none_hints : (clauses : List (List ℤ)) (hints : List (List ℕ)) (at : ℕ) →
    slice_get hints at ≡ None → slice_get (steps_of clauses hints) at ≡ None
step_none_hints [] [] at none = refl
step_none_hints [] (row ∷ rows) at none = refl
step_none_hints (clause ∷ clauses) [] at none = refl
step_none_hints (clause ∷ clauses) (row ∷ rows) zero none = absurd (cc)
step_none_hints (clause ∷ clauses) (row ∷ rows) (suc at) none = step_none_hints clauses rows at none

pub step_some : (clauses : List (List ℤ)) (hints : List (List ℕ)) (at : ℕ) (clause : List ℤ) (row : List ℕ) →
    slice_get clauses at ≡ Some clause → slice_get hints at ≡ Some row →
    slice_get (steps_of clauses hints) at ≡ Some (log_step clause row)
step_some [] hints at clause row c h = absurd (cc)
step_some (first ∷ clauses) [] at clause row c h = absurd (cc)
step_some (first ∷ clauses) (named ∷ rows) zero clause row c h =
    let same : first ≡ clause = cc in let hinted : named ≡ row = cc in
    ap (λ l. Some (log_step l named)) same ∙ ap (λ l. Some (log_step clause l)) hinted
step_some (first ∷ clauses) (named ∷ rows) (suc at) clause row c h = step_some clauses rows at clause row c h

pub step_push : (clauses : List (List ℤ)) (hints : List (List ℕ)) (clause : List ℤ) (row : List ℕ) → length clauses ≡ length hints →
    steps_of (clauses ++ clause ∷ []) (hints ++ row ∷ []) ≡ steps_of clauses hints ++ log_step clause row ∷ []
step_push [] [] clause row e = refl
step_push [] (named ∷ rows) clause row e = absurd (omega (arith, e))
step_push (first ∷ clauses) [] clause row e = absurd (omega (arith, e))
step_push (first ∷ clauses) (named ∷ rows) clause row e =
    ap (λ rest. log_step first named ∷ rest) (step_push clauses rows clause row (omega (arith, e)))

pub ruleset stepping = (length_steps, clauses_steps, step_none, step_none_hints, step_some)
