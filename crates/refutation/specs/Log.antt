-- The steps of a log.
use Rattle.std.specs.Prelude.{ℕ, ℤ, List, [], ◌∷◌, map}

-- a learned clause, with the numbers of the clauses from which it follows
pub record LogStep : Type 0 where
  pub clause : List ℤ
  pub hints : List ℕ

abbrev pub log_step : List ℤ → List ℕ → LogStep
log_step clause hints = record { clause = clause; hints = hints }

-- the steps of these clauses, each with its hints
abbrev pub steps_of : List (List ℤ) → List (List ℕ) → List LogStep
steps_of [] [] = []
steps_of [] (hints ∷ more) = []
steps_of (clause ∷ clauses) [] = []
steps_of (clause ∷ clauses) (hints ∷ more) = log_step clause hints ∷ steps_of clauses more

abbrev pub clauses_of : List LogStep → List (List ℤ)
clauses_of steps = map (λ step. step.clause) steps
