-- Clauses over some variables.
use Rattle.std.proofs.Common.{ℕ, ℤ, List, [], ◌∷◌, ◌++◌}
use Rattle.std.specs.Prelude.{All}
use Rattle.std.proofs.lemmas.List.Elements.{All-nil, All-push}
use Rattle.refutation.specs.Literal.{IsClause}

pub no_clauses : (vars : ℕ) → All (IsClause vars) []
no_clauses vars = All-nil (IsClause vars)

pub one_clause_more : (vars : ℕ) (clauses : List (List ℤ)) (clause : List ℤ) → All (IsClause vars) clauses → IsClause vars clause →
    All (IsClause vars) (clauses ++ clause ∷ [])
one_clause_more vars clauses clause all is = All-push (IsClause vars) clauses clause all is
