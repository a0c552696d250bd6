-- A proof by its parts.
use Rattle.std.specs.Prelude.{ℕ, ℤ, List}
use Rattle.refutation.specs.declared.proof.Proof.{Proof}
use Rattle.refutation.specs.Log.{LogStep}

-- the number of a race, the formula by its variables and its clauses, and the steps of the log
pub record Entry : Type 0 where
  pub race : ℕ
  pub vars : ℕ
  pub clauses : List (List ℤ)
  pub steps : List LogStep

abbrev pub entry_of : Proof → Entry
entry_of proof = record {
  race = proof.race;
  vars = proof.formula.vars;
  clauses = proof.formula.clauses;
  steps = proof.log;
}
