-- Literals and clauses, and what makes them true.
use Rattle.std.specs.Prelude.{◌≡◌, ◌<◌, ◌≤◌, ◌==◌, ℕ, ℤ, pos, Bool, true, not, int_lt, unsigned_abs, if◌then◌else◌, List, All, map}
use Rattle.std.specs.List.{IsDistinct, list_any}

-- whether the literal is its variable, and not that variable's negation
abbrev pub sign : ℤ → Bool
sign literal = int_lt (pos 0) literal

-- the literal's variable is one of 1 to `vars`
abbrev pub IsLiteral : ℕ → ℤ → Type 0
IsLiteral vars literal = (0 < unsigned_abs literal) × (unsigned_abs literal ≤ vars)

-- the variables of a clause
abbrev pub variables : List ℤ → List ℕ
variables clause = map unsigned_abs clause

-- literals over the variables 1 to `vars`, of which no two have one variable
abbrev pub IsClause : ℕ → List ℤ → Type 0
IsClause vars clause = All (IsLiteral vars) clause × IsDistinct (λ a b. a == b) (variables clause)

-- whether values of the variables make a literal true
abbrev pub holds : (ℕ → Bool) → ℤ → Bool
holds values literal = if sign literal then values (unsigned_abs literal) else not (values (unsigned_abs literal))

abbrev pub clause_holds : (ℕ → Bool) → List ℤ → Bool
clause_holds values clause = list_any (holds values) clause

abbrev pub Solves : (ℕ → Bool) → List (List ℤ) → Type 0
Solves values clauses = All (λ clause. clause_holds values clause ≡ true) clauses

abbrev pub HasNoModel : List (List ℤ) → Type 0
HasNoModel clauses = (values : ℕ → Bool) → Solves values clauses → ⊥
