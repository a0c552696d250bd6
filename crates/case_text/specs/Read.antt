-- The text of a case, line by line.
use Rattle.std.specs.Prelude.{ℕ, ◌+◌, List, [], ◌∷◌, Result, Ok, Err, if◌then◌else◌}
use Rattle.ir_types.specs.declared.«module».Module.{Module}
use Rattle.run_types.specs.declared.case.Case.{Case}
use Rattle.rc_base.specs.Failures.{◌>>=◌}
use Rattle.case_text.specs.declared.error.CaseError.{CaseError}
use Rattle.case_text.specs.declared.error.CaseError.TheVariants.{Syntax}
use Rattle.case_text.specs.declared.progress.Progress.{Progress}
use Rattle.case_text.specs.Progress.{is_ended, start, taken}
use Rattle.text_lines.specs.Part.{parts_of}

-- The case by the parts of a text between its line feeds, of which the first is the line of this number. The last
-- one has no line feed behind it, so it is no line.
unfoldable pub lines_from : Module → Progress → ℕ → List (List ℕ) → Result Case CaseError
lines_from code here number [] = Err (Syntax number)
lines_from code here number (last ∷ []) = if is_ended here last then Ok here.case else Err (Syntax number)
lines_from code here number (line ∷ next ∷ more) = do
  after ← taken code here number line
  lines_from code after (number + 1) (next ∷ more)

-- the case for the module that a text spells, or its first fault
unfoldable pub case_of : Module → List ℕ → Result Case CaseError
case_of code text = lines_from code start 1 (parts_of 10 text)
