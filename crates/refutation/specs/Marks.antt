-- What is known of the variables: a mark for each, 0 where nothing is known, 1 for true and 2 for false.
use Rattle.std.specs.Prelude.{ℕ, ◌+◌, ℤ, unsigned_abs, Bool, true, false, not, ◌==◌, ◌&&◌, nat_le, List, [], ◌∷◌, filter, replicate, slice_index, slice_set, Option, Some, None, if◌then◌else◌}
use Rattle.refutation.specs.Literal.{sign}
use Rattle.refutation.specs.declared.propagation.Propagation.{Propagation}
use Rattle.refutation.specs.declared.propagation.Propagation.TheVariants.{Conflict, Implies, Nothing}

abbrev pub mark_of : Bool → ℕ
mark_of value = if value then 1 else 2

abbrev pub zeros : ℕ → List ℕ
zeros vars = replicate (vars + 1) 0

abbrev pub is_unset : List ℕ → ℤ → Bool
is_unset marks literal = slice_index marks (unsigned_abs literal) == 0

abbrev pub is_false : List ℕ → ℤ → Bool
is_false marks literal = slice_index marks (unsigned_abs literal) == mark_of (not (sign literal))

abbrev pub made_true : ℤ → List ℕ → List ℕ
made_true literal marks = slice_set marks (unsigned_abs literal) (mark_of (sign literal))

abbrev pub made_false : ℤ → List ℕ → List ℕ
made_false literal marks = slice_set marks (unsigned_abs literal) (mark_of (not (sign literal)))

-- the literals of a clause that aren't false
abbrev pub open_literals : List ℕ → List ℤ → List ℤ
open_literals marks clause = filter (λ literal. not (is_false marks literal)) clause

-- what a clause says beside the marks, by its literals that aren't false
abbrev pub propagation_of : List ℕ → List ℤ → Propagation
propagation_of marks [] = Conflict
propagation_of marks (literal ∷ []) = if is_unset marks literal then Implies literal else Nothing
propagation_of marks (literal ∷ other ∷ more) = Nothing

-- what a clause says with one more literal that isn't false
abbrev pub with_open : Propagation → Bool → ℤ → Propagation
with_open Conflict true literal = Implies literal
with_open Conflict false literal = Nothing
with_open (Implies other) unset literal = Nothing
with_open Nothing unset literal = Nothing

-- the literal is one over the variables 1 to `vars`, and nothing is known of its variable
abbrev pub is_new : ℕ → List ℕ → ℤ → Bool
is_new vars marks literal =
    nat_le 1 (unsigned_abs literal) && nat_le (unsigned_abs literal) vars && is_unset marks literal

-- the marks with every literal of a clause made false, where no variable stands twice in it
unfoldable pub falsified : ℕ → List ℤ → List ℕ → Option (List ℕ)
falsified vars [] marks = Some marks
falsified vars (literal ∷ clause) marks =
    if is_new vars marks literal then falsified vars clause (made_false literal marks) else None
