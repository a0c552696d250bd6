-- The refusals, and the line that a refused request is answered with.
use Rattle.std.specs.Prelude.{ℕ, List, [], ◌++◌, codes, decimal, Result, Ok, Err}
use Rattle.case_text.specs.Error as case_error
use Rattle.module_text.specs.Fault as module_fault
use Rattle.race_top.specs.declared.refusal.Refusal.{Refusal}
use Rattle.race_top.specs.declared.refusal.Refusal.TheVariants.{TooLong, Module, Case, Replay, Race}
use Rattle.race_top.specs.CheckRace as race_error
use Rattle.race_top.specs.File.{number_of}
use Rattle.race_top.specs.TraceReplay as replay_error

-- `refused NAME PLACE` and a line feed, by the two parts of the name
abbrev pub line_of : List ℕ → List ℕ → ℕ → List ℕ
line_of reader name place = codes "refused " ++ reader ++ name ++ codes " " ++ decimal place ++ codes "\n"

-- the place is the file's number, the line, or the number of the listed turn or of the race
abbrev pub refusal_line : Refusal → List ℕ
refusal_line (TooLong file) = line_of (codes "TooLong") [] (number_of file)
refusal_line (Module error) = line_of (codes "Module") (module_fault.name_of error) (module_fault.line_of error)
refusal_line (Case error) = line_of (codes "Case") (case_error.name_of error) (case_error.place_of error)
refusal_line (Replay error) = line_of (codes "Replay") (replay_error.name_of error) (replay_error.place_of error)
refusal_line (Race race error) = line_of (codes "Race") (race_error.name_of error) race

-- what a reader gives, with the refusal in place of its error
abbrev pub or_refusal : {A E : Type 0} → (E → Refusal) → Result A E → Result A Refusal
or_refusal refusal (Ok found) = Ok found
or_refusal refusal (Err error) = Err (refusal error)
