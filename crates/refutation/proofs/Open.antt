-- What one more literal changes of what a clause says.
use Rattle.std.proofs.Common.{◌≡◌, ℕ, ◌+◌, ◌<◌, ℤ, Bool, true, false, cond, not, List, [], ◌∷◌, ◌++◌, length, take, get_or, refl, ap, ◌∙◌, append-nil}
use Rattle.std.proofs.lemmas.List.Elements.{filter_more}
use Rattle.refutation.specs.declared.propagation.Propagation.TheVariants.{Conflict, Implies, Nothing}
use Rattle.refutation.specs.Marks.{propagation_of, is_false, is_unset, open_literals, with_open}

pub propagation_of-push : (marks : List ℕ) (xs : List ℤ) (literal : ℤ) → propagation_of marks (xs ++ literal ∷ []) ≡ with_open (propagation_of marks xs) (is_unset marks literal) literal
propagation_of-push marks [] literal = elim (is_unset marks literal) as (λ b. cond b (Implies literal) Nothing ≡ with_open Conflict b literal) [ true ↦ refl | false ↦ refl ]
propagation_of-push marks (x ∷ []) literal = elim (is_unset marks x) as (λ b. Nothing ≡ with_open (cond b (Implies x) Nothing) (is_unset marks literal) literal) [ true ↦ refl | false ↦ refl ]
propagation_of-push marks (x ∷ y ∷ xs) literal = refl

-- the literals before index i + 1
pub open_more : (marks : List ℕ) (clause : List ℤ) (i : ℕ) (d : ℤ) → i < length clause →
    propagation_of marks (open_literals marks (take (i + 1) clause))
    ≡ cond (is_false marks (get_or clause i d)) (propagation_of marks (open_literals marks (take i clause)))
    (with_open (propagation_of marks (open_literals marks (take i clause))) (is_unset marks (get_or clause i d)) (get_or clause i d))
open_more marks clause i d h =
    ap (propagation_of marks) (filter_more (λ literal. not (is_false marks literal)) clause i d h)
    ∙ by (is_false marks (get_or clause i d))
  where
    by : (b : Bool) → propagation_of marks (open_literals marks (take i clause) ++ cond (not b) (get_or clause i d ∷ []) [])
        ≡ cond b (propagation_of marks (open_literals marks (take i clause)))
        (with_open (propagation_of marks (open_literals marks (take i clause))) (is_unset marks (get_or clause i d)) (get_or clause i d))
    by true = ap (propagation_of marks) (append-nil _)
    by false = propagation_of-push marks (open_literals marks (take i clause)) (get_or clause i d)
