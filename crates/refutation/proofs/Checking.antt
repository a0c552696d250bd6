-- Steps of the checker's loops.
use Rattle.std.proofs.Common.{◌≡◌, ◌≢◌, ℕ, ◌+◌, ◌<◌, ◌≤◌, ℤ, unsigned_abs, Bool, true, false, cond, List, [], ◌∷◌, ◌++◌, length, get_or, drop, take, Option, Some, None, refl, ap, ◌∙◌, sym, subst, arith, not, nat_eq, ◌==◌, ◌||◌, ◌&&◌, length-drop, get_or-set_other}
use Rattle.std.specs.Prelude.{map, slice_get}
use Rattle.std.proofs.lemmas.List.{append_assoc, at_drop_more, at_drop_all, map_more, take-map}
use Rattle.std.proofs.lemmas.Option.{get_or_from_slice_get, slice_get_within}
use Rattle.std.proofs.lemmas.List.Folds.{list_any_at}
use Rattle.std.proofs.lemmas.Bool.Decides.{nat_tests}
use Rattle.std.proofs.lemmas.Grind.{elements}
use Rattle.std.proofs.lemmas.Bool.{eq-eqb}
use Rattle.refutation.specs.Literal.{sign}
use Rattle.refutation.specs.declared.propagation.Propagation.TheVariants.{Conflict, Implies, Nothing}
use Rattle.refutation.specs.Accepts.{all_follow, follows, continued, has_variable, hint_mentions, hint_propagation, hints_mention, reaches_conflict, numbered}
use Rattle.refutation.specs.Marks.{propagation_of, is_false, is_unset, made_true, mark_of, open_literals, zeros}
use Rattle.refutation.specs.Log.{LogStep, clauses_of}

-- a hint is taken
pub reaches_at : (known : List (List ℤ)) (hints : List ℕ) (i : ℕ) (marks : List ℕ) → i < length hints →
    reaches_conflict known (drop i hints) marks
    ≡ continued (reaches_conflict known (drop (i + 1) hints)) (drop (i + 1) hints) marks (hint_propagation marks (numbered known (get_or hints i 0)))
unfolding reaches_conflict
reaches_at known hints i marks h = at_drop_more (λ rest. reaches_conflict known rest marks) hints i 0 h

pub reaches_end : (known : List (List ℤ)) (hints : List ℕ) (i : ℕ) (marks : List ℕ) → length hints ≤ i → reaches_conflict known (drop i hints) marks ≡ false
unfolding reaches_conflict
reaches_end known hints i marks h = at_drop_all (λ rest. reaches_conflict known rest marks) hints i h

pub reaches_by_conflict : (known : List (List ℤ)) (hints : List ℕ) (i : ℕ) (marks : List ℕ) → i < length hints →
    hint_propagation marks (numbered known (get_or hints i 0)) ≡ Conflict → nat_eq (i + 1) (length hints) ≡ reaches_conflict known (drop i hints) marks
reaches_by_conflict known hints i marks h e =
    let n = length-drop (i + 1) hints in
    let last : nat_eq (i + 1) (length hints) ≡ (length (drop (i + 1) hints) == 0) = grind (arith, nat_tests) in
    last ∙ sym (reaches_at known hints i marks h ∙ ap (continued (reaches_conflict known (drop (i + 1) hints)) (drop (i + 1) hints) marks) e)

-- the variable of a literal that is left of a clause stands in it
left-has : (marks : List ℕ) (n : ℕ) (clause : List ℤ) → has_variable n (open_literals marks clause) ≡ true → has_variable n clause ≡ true
left-has marks n [] h = h
left-has marks n (literal ∷ clause) h = by (is_false marks literal) (nat_eq (unsigned_abs literal) n) (left-has marks n clause) refl h
  where
    by : (t b : Bool) → (has_variable n (open_literals marks clause) ≡ true → has_variable n clause ≡ true) → nat_eq (unsigned_abs literal) n ≡ b →
        has_variable n (cond (not t) (literal ∷ open_literals marks clause) (open_literals marks clause)) ≡ true → (b || has_variable n clause) ≡ true
    by t true next e h = refl
    by true false next e h = next h
    by false false next e h = next (sym (ap (λ b. b || has_variable n (open_literals marks clause)) e) ∙ h)

pub implied-mentioned : (known : List (List ℤ)) (marks : List ℕ) (found : Option (List ℤ)) (literal : ℤ) → hint_propagation marks found ≡ Implies literal →
    hint_mentions known (unsigned_abs literal) found ≡ true
implied-mentioned known marks None literal e = cc
implied-mentioned known marks (Some clause) literal e = left-has marks (unsigned_abs literal) clause (by (open_literals marks clause) e)
  where
    forced : (t : Bool) (one : ℤ) → cond t (Implies one) Nothing ≡ Implies literal → one ≡ literal
    forced true one e = cc
    forced false one e = cc

    by : (left : List ℤ) → propagation_of marks left ≡ Implies literal → has_variable (unsigned_abs literal) left ≡ true
    by [] e = cc
    by (one ∷ []) e = let same = forced (is_unset marks one) one e in ap (λ b. b || false) (eq-eqb _ _ (ap unsigned_abs same))
    by (one ∷ two ∷ more) e = cc

-- a mark that a hint sets is that of a variable of its clause
pub others-kept : (known : List (List ℤ)) (hints : List ℕ) (i : ℕ) (marks : List ℕ) (literal : ℤ) (n : ℕ) → i < length hints →
    hint_propagation marks (numbered known (get_or hints i 0)) ≡ Implies literal → hints_mention known n hints ≡ false →
    get_or (made_true literal marks) n 0 ≡ get_or marks n 0
others-kept known hints i marks literal n h e none =
    let there = list_any_at (λ hint. hint_mentions known (unsigned_abs literal) (numbered known hint)) hints i 0 h (implied-mentioned known marks (numbered known (get_or hints i 0)) literal e) in
    let apart : n ≢ unsigned_abs literal = λ same. let m : hints_mention known (unsigned_abs literal) hints ≡ false = subst (λ k. hints_mention known k hints ≡ false) same none in cc in
    get_or-set_other marks (unsigned_abs literal) n (mark_of (sign literal)) 0 apart

pub ruleset checking = (reaches_at, reaches_end)

-- marks that are all 0
pub all_zero : (vars : ℕ) (marks : List ℕ) → length marks ≡ vars + 1 → ((n : ℕ) → get_or marks n 0 ≡ 0) → marks ≡ zeros vars
all_zero vars marks long zero = grind (arith, elements)

pub all_follow_at : (vars : ℕ) (clauses : List (List ℤ)) (steps : List LogStep) (i : ℕ) (step : LogStep) → slice_get steps i ≡ Some step →
    all_follow vars (clauses ++ take i (clauses_of steps)) (drop i steps)
    ≡ (follows vars (clauses ++ take i (clauses_of steps)) step && all_follow vars (clauses ++ take (i + 1) (clauses_of steps)) (drop (i + 1) steps))
unfolding all_follow
all_follow_at vars clauses steps i step found =
    at_drop_more (all_follow vars (clauses ++ take i (clauses_of steps))) steps i step within
    ∙ ap (λ (s : LogStep). follows vars (clauses ++ take i (clauses_of steps)) s && all_follow vars (clauses ++ take i (clauses_of steps) ++ s.clause ∷ []) (drop (i + 1) steps)) is
    ∙ ap (λ cs. follows vars (clauses ++ take i (clauses_of steps)) step && all_follow vars cs (drop (i + 1) steps)) one_more
  where
    within : i < length steps
    within = slice_get_within steps i step found

    is : get_or steps i step ≡ step
    is = get_or_from_slice_get steps i step step found

    one_more : clauses ++ take i (clauses_of steps) ++ step.clause ∷ [] ≡ clauses ++ take (i + 1) (clauses_of steps)
    one_more = append_assoc clauses (take i (clauses_of steps)) (step.clause ∷ [])
        ∙ ap (λ xs. clauses ++ xs) (ap (λ xs. xs ++ step.clause ∷ []) (take-map (λ (s : LogStep). s.clause) i steps)
        ∙ sym (take-map (λ (s : LogStep). s.clause) (i + 1) steps ∙ map_more (λ (s : LogStep). s.clause) steps i step within
        ∙ ap (λ (s : LogStep). map (λ (s : LogStep). s.clause) (take i steps) ++ s.clause ∷ []) is))

pub all_follow_end : (vars : ℕ) (known : List (List ℤ)) (steps : List LogStep) (i : ℕ) → length steps ≤ i → all_follow vars known (drop i steps) ≡ true
unfolding all_follow
all_follow_end vars known steps i h = at_drop_all (all_follow vars known) steps i h

pub ruleset stepping = (all_follow_at, all_follow_end)
