-- What a text of proofs spells, and what it refuses.
use Rattle.std.specs.Prelude.{◌≡◌, ℕ, ◌^◌, ◌<◌, List, length, Ok}
use Rattle.std.specs.List.{AllByRecursion}
use Rattle.proof_text.specs.Entry.{Entry}
use Rattle.refutation.specs.Literal.{IsClause}
use Rattle.refutation.specs.Log.{LogStep}
use Rattle.proof_text.specs.Reading.{proofs_in}
use Rattle.proof_text.specs.Text.{proofs_text}

-- a number of a clause
abbrev pub IsHint : ℕ → Type 0
IsHint hint = (0 < hint) × (hint < 2 ^ 32)

-- a clause over the variables, and numbers of clauses
abbrev pub IsStep : ℕ → LogStep → Type 0
IsStep vars step = IsClause vars step.clause × AllByRecursion IsHint step.hints

-- its numbers are within their bounds, and its clauses are clauses over its variables
pub record IsEntry (entry : Entry) : Type 0 where
  pub race : entry.race < 2 ^ 32
  pub vars : entry.vars < 2 ^ 31
  pub count : length entry.clauses < 2 ^ 32
  pub clauses : AllByRecursion (IsClause entry.vars) entry.clauses
  pub log : length entry.steps < 2 ^ 32
  pub steps : AllByRecursion (IsStep entry.vars) entry.steps

-- proofs are read from their own text
abbrev pub TextIsRead : Type 0
TextIsRead = (entries : List Entry) → AllByRecursion IsEntry entries → proofs_in (proofs_text entries) ≡ Ok entries

-- a text of which proofs are read is their own text
abbrev pub ReadIsText : Type 0
ReadIsText = (text : List ℕ) (entries : List Entry) → proofs_in text ≡ Ok entries →
    (text ≡ proofs_text entries) × AllByRecursion IsEntry entries
