-- What holds of steps and logs.
use Rattle.std.specs.Prelude.{◌≡◌, ◌↔◌, ℕ, ℤ, Bool, true, List, All, IsSome, slice_index}
use Rattle.refutation.specs.declared.propagation.Propagation.TheVariants.{Implies}
use Rattle.refutation.specs.Log.{LogStep}
use Rattle.refutation.specs.Accepts.{accepted, all_follow, follows, hint_propagation, numbered}
use Rattle.refutation.specs.Literal.{HasNoModel, IsClause, Solves, clause_holds, holds}
use Rattle.refutation.specs.Marks.{falsified, mark_of, zeros}

-- the marks say nothing wrong of the values
abbrev pub Agrees : (ℕ → Bool) → List ℕ → Type 0
Agrees values marks = (n : ℕ) (b : Bool) → slice_index marks n ≡ mark_of b → values n ≡ b

-- the literals of a clause can be made false, one after the other, and those of what is no clause can't
abbrev pub ClausesAreTested : Type 0
ClausesAreTested =
    (vars : ℕ) (clause : List ℤ) → IsSome (falsified vars clause (zeros vars)) ↔ IsClause vars clause

-- a step that follows holds wherever the clauses before it do
abbrev pub StepIsImplied : Type 0
StepIsImplied =
    (vars : ℕ) (known : List (List ℤ)) (step : LogStep) (values : ℕ → Bool) → follows vars known step ≡ true →
    Solves values known → clause_holds values step.clause ≡ true

-- so do all steps that follow
abbrev pub StepsAreImplied : Type 0
StepsAreImplied =
    (vars : ℕ) (known : List (List ℤ)) (steps : List LogStep) (values : ℕ → Bool) → all_follow vars known steps ≡ true →
    Solves values known → All (λ step. clause_holds values step.clause ≡ true) steps

-- a literal that a unit clause implies holds wherever the clauses do and the marks agree
abbrev pub ImpliedHolds : Type 0
ImpliedHolds =
    (known : List (List ℤ)) (marks : List ℕ) (number : ℕ) (literal : ℤ) (values : ℕ → Bool) → Solves values known → Agrees values marks →
    hint_propagation marks (numbered known number) ≡ Implies literal → holds values literal ≡ true

-- an accepted log shows that the clauses have no model
abbrev pub AcceptedIsRefuted : Type 0
AcceptedIsRefuted =
    (vars : ℕ) (known : List (List ℤ)) (steps : List LogStep) → accepted vars known steps ≡ true → HasNoModel known
