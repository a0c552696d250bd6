-- What follows by hints holds.
use Rattle.std.proofs.Common.{◌≡◌, ◌≢◌, ℕ, ◌+◌, ◌-◌, ◌||◌, ◌&&◌, ℤ, unsigned_abs, Bool, true, false, cond, eqb, not, List, [], ◌∷◌, ◌++◌, length, get_or, set, Option, Some, None, refl, ap, ◌∙◌, sym, subst, arith, ⊎_elim, get_or-set_other}
use Rattle.std.specs.List.{slice_get}
use Rattle.std.specs.Prelude.{All}
use Rattle.std.proofs.lemmas.List.{get_or-replicate, get_or_past, length-replicate, nil_from_length, set_past}
use Rattle.std.proofs.lemmas.Grind.{get_or-set_at}
use Rattle.std.proofs.lemmas.List.Elements.{All-cons, All-nil, All-push}
use Rattle.std.proofs.lemmas.Option.{slice_get_within, get_or_from_slice_get}
use Rattle.std.proofs.lemmas.Bool.{cases_eq, cases_lt, eqb-true}
use Rattle.refutation.specs.declared.propagation.Propagation.TheVariants.{Implies, Nothing}
use Rattle.refutation.specs.Log.{LogStep}
use Rattle.refutation.specs.Accepts.{all_follow, ends_empty, follows, continued, hint_propagation, is_empty_step, reaches_conflict, reaches_from, numbered}
use Rattle.refutation.specs.Literal.{Solves, clause_holds, holds, sign}
use Rattle.refutation.specs.Marks.{falsified, propagation_of, is_false, is_new, is_unset, made_false, made_true, mark_of, open_literals, zeros}
use Rattle.refutation.specs.Model.{AcceptedIsRefuted, Agrees, ImpliedHolds, StepIsImplied, StepsAreImplied}

mark_tells : (a b : Bool) → mark_of a ≡ mark_of b → a ≡ b
mark_tells true true e = refl
mark_tells true false e = absurd (omega arith)
mark_tells false true e = absurd (omega arith)
mark_tells false false e = refl

-- one mark more
pub agrees-set : (values : ℕ → Bool) (marks : List ℕ) (at : ℕ) (b : Bool) → Agrees values marks → values at ≡ b →
    Agrees values (set marks at (mark_of b))
agrees-set values marks at b agrees is n other e = ⊎_elim
    (λ same. ⊎_elim
    (λ within. let m : mark_of b ≡ mark_of other = sym (get_or-set_at marks at n (mark_of b) 0 same within) ∙ e in ap values same ∙ is ∙ mark_tells b other m)
    (λ past. agrees n other (ap (λ xs. get_or xs n 0) (sym (set_past marks at (mark_of b) past)) ∙ e))
    (cases_lt at (length marks)))
    (λ (apart : n ≢ at). agrees n other (sym (get_or-set_other marks at n (mark_of b) 0 apart) ∙ e))
    (cases_eq n at)

-- a literal holds where its variable has its sign
holds-sign : (values : ℕ → Bool) (literal : ℤ) → holds values literal ≡ true → values (unsigned_abs literal) ≡ sign literal
holds-sign values literal h = by (sign literal) (values (unsigned_abs literal)) h
  where
    by : (s v : Bool) → cond s v (not v) ≡ true → v ≡ s
    by true true e = refl
    by true false e = cc
    by false true e = cc
    by false false e = refl

false-sign : (values : ℕ → Bool) (literal : ℤ) → values (unsigned_abs literal) ≡ not (sign literal) → holds values literal ≡ false
false-sign values literal h = rw h (by (sign literal))
  where
    by : (s : Bool) → cond s (not s) (not (not s)) ≡ false
    by true = refl
    by false = refl

false_holds_not : (values : ℕ → Bool) (marks : List ℕ) (literal : ℤ) → Agrees values marks → is_false marks literal ≡ true →
    holds values literal ≡ false
false_holds_not values marks literal agrees h =
    false-sign values literal (agrees (unsigned_abs literal) (not (sign literal)) (eqb-true _ _ h))

-- a clause that holds does so by a literal that isn't false
open-holds : (values : ℕ → Bool) (marks : List ℕ) (clause : List ℤ) → Agrees values marks → clause_holds values clause ≡ true →
    clause_holds values (open_literals marks clause) ≡ true
open-holds values marks [] agrees h = h
open-holds values marks (literal ∷ clause) agrees h = by (open-holds values marks clause agrees) (is_false marks literal) refl
  where
    either : (b : Bool) → (clause_holds values clause ≡ true → clause_holds values (open_literals marks clause) ≡ true) →
        (b || clause_holds values clause) ≡ true → (b || clause_holds values (open_literals marks clause)) ≡ true
    either true next e = refl
    either false next e = next e

    by : (clause_holds values clause ≡ true → clause_holds values (open_literals marks clause) ≡ true) →
        (t : Bool) → is_false marks literal ≡ t → clause_holds values (cond (not t) (literal ∷ open_literals marks clause) (open_literals marks clause)) ≡ true
    by next true e = next (rw (false_holds_not values marks literal agrees e) at h)
    by next false e = either (holds values literal) next h

known-holds : (values : ℕ → Bool) (known : List (List ℤ)) (number : ℕ) (clause : List ℤ) → Solves values known →
    numbered known number ≡ Some clause → clause_holds values clause ≡ true
known-holds values known number clause solves e = by (eqb number 0) e
  where
    by : (t : Bool) → cond t None (slice_get known (number - 1)) ≡ Some clause → clause_holds values clause ≡ true
    by true e = cc
    by false e = sym (ap (clause_holds values) (get_or_from_slice_get known (number - 1) clause clause e)) ∙ solves (number - 1) clause (slice_get_within known (number - 1) clause e)

-- hints lead to no conflict where the clauses hold
reaches-sound : (known : List (List ℤ)) (hints marks : List ℕ) (values : ℕ → Bool) → Solves values known → Agrees values marks →
    reaches_conflict known hints marks ≡ true → ⊥
unfolding reaches_conflict
reaches-sound known [] marks values solves agrees h = cc
reaches-sound known (hint ∷ hints) marks values solves agrees h =
    by (λ marks'. reaches-sound known hints marks' values solves) (numbered known hint) refl h
  where
    single : (literal : ℤ) → (holds values literal || false) ≡ true → holds values literal ≡ true
    single literal e = elim (holds values literal) as (λ b. (b || false) ≡ true → b ≡ true) [ true ↦ (λ e. refl) | false ↦ (λ e. e) ] e

    forced : (next : (marks' : List ℕ) → Agrees values marks' → reaches_conflict known hints marks' ≡ true → ⊥) (literal : ℤ) → holds values literal ≡ true →
        (t : Bool) → continued (reaches_conflict known hints) hints marks (cond t (Implies literal) Nothing) ≡ true → ⊥
    forced next literal k true h =
        next (made_true literal marks) (agrees-set values marks (unsigned_abs literal) (sign literal) agrees (holds-sign values literal k)) h
    forced next literal k false h = cc

    among : (next : (marks' : List ℕ) → Agrees values marks' → reaches_conflict known hints marks' ≡ true → ⊥) (left : List ℤ) → clause_holds values left ≡ true →
        continued (reaches_conflict known hints) hints marks (propagation_of marks left) ≡ true → ⊥
    among next [] k h = cc
    among next (literal ∷ []) k h = forced next literal (single literal k) (is_unset marks literal) h
    among next (literal ∷ other ∷ more) k h = cc

    by : (next : (marks' : List ℕ) → Agrees values marks' → reaches_conflict known hints marks' ≡ true → ⊥) (found : Option (List ℤ)) → numbered known hint ≡ found →
        continued (reaches_conflict known hints) hints marks (hint_propagation marks found) ≡ true → ⊥
    by next None e h = cc
    by next (Some clause) e h =
        among next (open_literals marks clause) (open-holds values marks clause agrees (known-holds values known hint clause solves e)) h

pub implied-holds : ImpliedHolds
implied-holds known marks number literal values solves agrees h = by (numbered known number) refl h
  where
    single : (one : ℤ) → (holds values one || false) ≡ true → holds values one ≡ true
    single one e = elim (holds values one) as (λ b. (b || false) ≡ true → b ≡ true) [ true ↦ (λ e. refl) | false ↦ (λ e. e) ] e

    same : (t : Bool) (one : ℤ) → cond t (Implies one) Nothing ≡ Implies literal → one ≡ literal
    same true one e = cc
    same false one e = cc

    among : (left : List ℤ) → clause_holds values left ≡ true → propagation_of marks left ≡ Implies literal → holds values literal ≡ true
    among [] k e = cc
    among (one ∷ []) k e = sym (ap (holds values) (same (is_unset marks one) one e)) ∙ single one k
    among (one ∷ other ∷ more) k e = cc

    by : (found : Option (List ℤ)) → numbered known number ≡ found → hint_propagation marks found ≡ Implies literal → holds values literal ≡ true
    by None e h = cc
    by (Some clause) e h = among (open_literals marks clause) (open-holds values marks clause agrees (known-holds values known number clause solves e)) h

-- where a clause doesn't hold, its literals made false say nothing wrong
falsified-agrees : (vars : ℕ) (clause : List ℤ) (marks after : List ℕ) (values : ℕ → Bool) → clause_holds values clause ≡ false → Agrees values marks →
    falsified vars clause marks ≡ Some after → Agrees values after
unfolding falsified
falsified-agrees vars [] marks after values none agrees e = let same : marks ≡ after = cc in subst (Agrees values) same agrees
falsified-agrees vars (literal ∷ clause) marks after values none agrees e =
    by (λ rest more. falsified-agrees vars clause (made_false literal marks) after values rest more) (is_new vars marks literal) (parts (holds values literal) none).1
    (agrees-set values marks (unsigned_abs literal) (not (sign literal)) agrees (not-sign (sign literal) (values (unsigned_abs literal)) (parts (holds values literal) none).0)) e
  where
    parts : (b : Bool) → (b || clause_holds values clause) ≡ false → (b ≡ false) × (clause_holds values clause ≡ false)
    parts true e = absurd (cc)
    parts false e = (refl, e)

    not-sign : (s v : Bool) → cond s v (not v) ≡ false → v ≡ not s
    not-sign true v e = e
    not-sign false true e = refl
    not-sign false false e = absurd (cc)

    by : (clause_holds values clause ≡ false → Agrees values (made_false literal marks) → falsified vars clause (made_false literal marks) ≡ Some after → Agrees values after) →
        (t : Bool) → clause_holds values clause ≡ false → Agrees values (made_false literal marks) →
        cond t (falsified vars clause (made_false literal marks)) None ≡ Some after → Agrees values after
    by next true rest more e = next rest more e
    by next false rest more e = cc

pub nothing_known : (vars n : ℕ) → get_or (zeros vars) n 0 ≡ 0
nothing_known vars n = ⊎_elim (λ within. get_or-replicate (vars + 1) n 0 0 within)
    (λ past. get_or_past (zeros vars) n 0 (omega (arith, past, length-replicate {A = ℕ} (vars + 1) 0))) (cases_lt n (vars + 1))

zeros-agree : (values : ℕ → Bool) (vars : ℕ) → Agrees values (zeros vars)
zeros-agree values vars n true e = absurd (omega (arith, nothing_known vars n))
zeros-agree values vars n false e = absurd (omega (arith, nothing_known vars n))

pub step-sound : StepIsImplied
unfolding follows
step-sound vars known step values h solves = by (clause_holds values step.clause) refl (falsified vars step.clause (zeros vars)) refl h
  where
    by : (t : Bool) → clause_holds values step.clause ≡ t → (marks : Option (List ℕ)) → falsified vars step.clause (zeros vars) ≡ marks →
        reaches_from known step.hints marks ≡ true → t ≡ true
    by true e marks f h = refl
    by false e None f h = h
    by false e (Some marks) f h =
        absurd (reaches-sound known step.hints marks values solves (falsified-agrees vars step.clause (zeros vars) marks values e (zeros-agree values vars) f) h)

both : (a b : Bool) → (a && b) ≡ true → (a ≡ true) × (b ≡ true)
both true b e = (refl, e)
both false b e = absurd (cc)

-- each clause of a log holds
pub steps-hold : StepsAreImplied
unfolding all_follow
steps-hold vars known [] values h solves = All-nil (λ step. clause_holds values step.clause ≡ true)
steps-hold vars known (step ∷ steps) values h solves =
    let parts = both (follows vars known step) (all_follow vars (known ++ step.clause ∷ []) steps) h in
    let holds = step-sound vars known step values parts.0 solves in
    All-cons (λ step. clause_holds values step.clause ≡ true) step steps holds
    (steps-hold vars (known ++ step.clause ∷ []) steps values parts.1 (All-push (λ clause. clause_holds values clause ≡ true) known step.clause solves holds))

pub accepted-refuted : AcceptedIsRefuted
accepted-refuted vars known steps h values solves =
    let parts = both (all_follow vars known steps) (ends_empty steps) h in
    last (steps-hold vars known steps values parts.0 solves) (slice_get steps (length steps - 1)) refl parts.1
  where
    last : All (λ step. clause_holds values step.clause ≡ true) steps → (step : Option LogStep) → slice_get steps (length steps - 1) ≡ step →
        is_empty_step step ≡ true → ⊥
    last all None e h = cc
    last all (Some step) e h =
        let holds = all (length steps - 1) step (slice_get_within steps (length steps - 1) step e) in
        let is = get_or_from_slice_get steps (length steps - 1) step step e in
        let empty : step.clause ≡ [] = nil_from_length step.clause (eqb-true _ _ h) in
        let never : clause_holds values [] ≡ true = sym (ap (clause_holds values) (ap (λ s. s.clause) is ∙ empty)) ∙ holds in
        cc
