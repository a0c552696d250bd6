-- When a log is accepted.
use Rattle.std.specs.Prelude.{ℕ, ◌-◌, ℤ, unsigned_abs, Bool, true, false, ◌&&◌, ◌==◌, List, [], ◌∷◌, ◌++◌, length, slice_get, Option, Some, None, if◌then◌else◌}
use Rattle.std.specs.List.{list_any}
use Rattle.refutation.specs.declared.propagation.Propagation.{Propagation}
use Rattle.refutation.specs.declared.propagation.Propagation.TheVariants.{Conflict, Implies, Nothing}
use Rattle.refutation.specs.Log.{LogStep}
use Rattle.refutation.specs.Marks.{falsified, propagation_of, made_true, open_literals, zeros}

-- the clause of a number, which begin at 1
abbrev pub numbered : List (List ℤ) → ℕ → Option (List ℤ)
numbered known number = if number == 0 then None else slice_get known (number - 1)

abbrev pub hint_propagation : List ℕ → Option (List ℤ) → Propagation
hint_propagation marks None = Nothing
hint_propagation marks (Some clause) = propagation_of marks (open_literals marks clause)

abbrev pub continued : (List ℕ → Bool) → List ℕ → List ℕ → Propagation → Bool
continued go hints marks Conflict = length hints == 0
continued go hints marks (Implies literal) = go (made_true literal marks)
continued go hints marks Nothing = false

-- the hints lead from the marks to a clause all of whose literals are false
unfoldable pub reaches_conflict : List (List ℤ) → List ℕ → List ℕ → Bool
reaches_conflict known [] marks = false
reaches_conflict known (hint ∷ hints) marks = continued (reaches_conflict known hints) hints marks (hint_propagation marks (numbered known hint))

abbrev pub reaches_from : List (List ℤ) → List ℕ → Option (List ℕ) → Bool
reaches_from known hints None = false
reaches_from known hints (Some marks) = reaches_conflict known hints marks

-- the step's clause follows from the clauses before it by its hints
unfoldable pub follows : ℕ → List (List ℤ) → LogStep → Bool
follows vars known step = reaches_from known step.hints (falsified vars step.clause (zeros vars))

-- each step follows from the clauses and the steps before it
unfoldable pub all_follow : ℕ → List (List ℤ) → List LogStep → Bool
all_follow vars known [] = true
all_follow vars known (step ∷ steps) = follows vars known step && all_follow vars (known ++ step.clause ∷ []) steps

abbrev pub is_empty_step : Option LogStep → Bool
is_empty_step None = false
is_empty_step (Some step) = length step.clause == 0

-- the last step has the empty clause
abbrev pub ends_empty : List LogStep → Bool
ends_empty steps = is_empty_step (slice_get steps (length steps - 1))

abbrev pub accepted : ℕ → List (List ℤ) → List LogStep → Bool
accepted vars known steps = all_follow vars known steps && ends_empty steps

-- whether a variable stands in a clause
abbrev pub has_variable : ℕ → List ℤ → Bool
has_variable n clause = list_any (λ literal. unsigned_abs literal == n) clause

abbrev pub hint_mentions : List (List ℤ) → ℕ → Option (List ℤ) → Bool
hint_mentions known n None = false
hint_mentions known n (Some clause) = has_variable n clause

-- whether a variable stands in a clause that a hint names
abbrev pub hints_mention : List (List ℤ) → ℕ → List ℕ → Bool
hints_mention known n hints = list_any (λ hint. hint_mentions known n (numbered known hint)) hints
