-- The text of proofs as it is read, line by line.
use Rattle.std.specs.Prelude.{ℕ, ◌+◌, ◌-◌, ℤ, Bool, true, false, ◌==◌, ◌&&◌, List, [], ◌∷◌, ◌++◌, codes, length, map, Option, Some, None, Result, Ok, Err, if◌then◌else◌, option_map}
use Rattle.std.specs.Str.{bytes_eq}
use Rattle.rc_base.specs.Failures.{◌>>=◌, or_error}
use Rattle.text_lines.specs.Part.{parts_of}
use Rattle.proof_text.specs.declared.error.ProofsError.{ProofsError}
use Rattle.proof_text.specs.declared.error.ProofsError.TheVariants.{BadLog}
use Rattle.proof_text.specs.declared.progress.Next.{Next}
use Rattle.proof_text.specs.declared.progress.Next.TheVariants as next
use Rattle.proof_text.specs.declared.progress.Progress.{Progress}
use Rattle.proof_text.specs.Entry.{Entry, entry_of}
use Rattle.refutation.specs.Log.{LogStep}
use Rattle.proof_text.specs.Line.{clause_of_line, formula_of_line, one_behind, step_of_line}

-- the line that is due, the entries that are whole, and the one that is being read
pub record Reading : Type 0 where
  pub due : Next
  pub whole : List Entry
  pub entry : Entry

abbrev pub reading : Next → List Entry → Entry → Reading
reading due whole entry = record { due = due; whole = whole; entry = entry }

abbrev pub reading_of : Progress → Reading
reading_of progress = reading progress.next (map entry_of progress.proofs.items) (entry_of progress.current)

abbrev pub no_entry : Entry
no_entry = record { race = 0; vars = 0; clauses = []; steps = [] }

-- before the first line
abbrev pub start : Reading
start = reading next.Heading [] no_entry

-- a clause more is read, and so many are left
abbrev pub with_clause : Reading → ℕ → List ℤ → Reading
with_clause here left clause = reading (next.Clause left) here.whole
    (record here.entry { clauses = here.entry.clauses ++ clause ∷ [] })

-- so many steps are left: the entry is whole with the last one
abbrev pub after_steps : Reading → ℕ → Reading
after_steps here left =
    if left == 0 then reading next.Entry (here.whole ++ here.entry ∷ []) no_entry
    else reading (next.Step left) here.whole here.entry

abbrev pub with_step : Reading → ℕ → LogStep → Reading
with_step here left step = after_steps (record here { entry = record here.entry { steps = here.entry.steps ++ step ∷ [] } }) left

abbrev pub with_race : Reading → ℕ → Reading
with_race here race = reading next.Formula here.whole (record here.entry { race = race })

abbrev pub with_formula : Reading → ℕ × ℕ → Reading
with_formula here numbers = reading (next.Clause numbers.1) here.whole
    (record here.entry { vars = numbers.0; clauses = [] })

abbrev pub heading_taken : Reading → List ℕ → Option Reading
heading_taken here line =
    if bytes_eq line (codes "portend-proofs 1") then Some (record here { due = next.Entry }) else None

abbrev pub entry_taken : Reading → List ℕ → Option Reading
entry_taken here line =
    if bytes_eq line (codes "end") then Some (record here { due = next.End })
    else option_map (with_race here) (one_behind (codes "proof") line)

-- a clause, or where none is left the number of steps
abbrev pub clause_taken : Reading → ℕ → List ℕ → Option Reading
clause_taken here left line =
    if left == 0 then option_map (after_steps here) (one_behind (codes "log") line)
    else option_map (with_clause here (left - 1)) (clause_of_line here.entry.vars line)

abbrev pub taken_as : Reading → List ℕ → Next → Option Reading
taken_as here line next.Heading = heading_taken here line
taken_as here line next.Entry = entry_taken here line
taken_as here line next.Formula = option_map (with_formula here) (formula_of_line line)
taken_as here line (next.Clause left) = clause_taken here left line
taken_as here line (next.Step left) = option_map (with_step here (left - 1)) (step_of_line here.entry.vars line)
taken_as here line next.End = None

-- with a line that may stand there
unfoldable pub taken : Reading → List ℕ → Option Reading
taken here line = taken_as here line here.due

abbrev pub is_whole : Next → Bool
is_whole next.Heading = false
is_whole next.Entry = false
is_whole next.Formula = false
is_whole (next.Clause left) = false
is_whole (next.Step left) = false
is_whole next.End = true

-- The entries by the parts of a text between its line feeds, of which the first is the line of this number. The last
-- one has no line feed behind it, so it is no line.
unfoldable pub lines_from : Reading → ℕ → List (List ℕ) → Result (List Entry) ProofsError
lines_from here number [] = Err (BadLog number)
lines_from here number (last ∷ []) =
    if is_whole here.due && length last == 0 then Ok here.whole else Err (BadLog number)
lines_from here number (line ∷ more ∷ rest) = do
  after ← or_error (BadLog number) (taken here line)
  lines_from after (number + 1) (more ∷ rest)

-- the entries that a text spells, or its first line that may not stand there
unfoldable pub proofs_in : List ℕ → Result (List Entry) ProofsError
proofs_in text = lines_from start 1 (parts_of 10 text)
