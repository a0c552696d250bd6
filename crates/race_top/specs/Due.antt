-- What a request is due, by the words and the bytes of the files that they name.
use Rattle.std.specs.Prelude.{◌≡◌, ℕ, ◌<◌, List, [], length, nat_lt, Option, Some, None, Result, Ok, Err, if◌then◌else◌}
use Rattle.rc_base.specs.Failures.{◌>>=◌}
use Rattle.report_text.specs.Replay.{replay_text}
use Rattle.report_text.specs.Report.{report_text}
use Rattle.race_top.specs.declared.file.File.TheVariants as files
use Rattle.race_top.specs.declared.refusal.Refusal.{Refusal}
use Rattle.race_top.specs.declared.refusal.Refusal.TheVariants.{TooLong}
use Rattle.race_top.specs.AnalyserPool.{reports_of}
use Rattle.race_top.specs.Command.{Task, case_name, module_name}
use Rattle.race_top.specs.File.{limit_of}
use Rattle.race_top.specs.Races.{RacesOf}
use Rattle.race_top.specs.Recorded.{RecordedOf}
use Rattle.race_top.specs.Refusal.{refusal_line}

-- a status, and the text that goes with it
pub record Answer : Type 0 where
  pub status : ℕ
  pub text : List ℕ

-- the shelf tells the bytes of the module's file, and they are too many
abbrev pub TellsLongModule : (List ℕ → Option (List ℕ)) → Option Task → List ℕ → Type 0
TellsLongModule holds None code = ⊥
TellsLongModule holds (Some task) code = (holds (module_name task) ≡ Some code) × (limit_of files.Module < length code)

-- the shelf tells the bytes of the files that the task names
abbrev pub Tells : (List ℕ → Option (List ℕ)) → Option Task → List ℕ → List ℕ → Type 0
Tells holds None code case = ⊥
Tells holds (Some task) code case = (holds (module_name task) ≡ Some code) × (holds (case_name task) ≡ Some case)

-- a file is read before the next one, and one that is too long ends the reading
abbrev pub too_long : List ℕ → List ℕ → Option Refusal
too_long code case =
    if nat_lt (limit_of files.Module) (length code) then Some (TooLong files.Module)
    else if nat_lt (limit_of files.Case) (length case) then Some (TooLong files.Case)
    else None

-- the text of the recorded run, or the first refusal
unfoldable pub ReplayOf : List ℕ → List ℕ → Result (List ℕ) Refusal
ReplayOf code_text case_text = do
  recorded ← RecordedOf code_text case_text
  Ok (replay_text recorded.run recorded.code)

-- the text of the classes of all races, or the first refusal
unfoldable pub ReportOf : List ℕ → List ℕ → Result (List ℕ) Refusal
ReportOf code_text case_text = do
  recorded ← RecordedOf code_text case_text
  races ← RacesOf recorded.code recorded.case
  Ok (report_text (reports_of recorded.code recorded.case races) recorded.code)

-- the text that a command asks for
abbrev pub text_of : Task → List ℕ → List ℕ → Result (List ℕ) Refusal
text_of (Task.Replay code_file case_file) code case = ReplayOf code case
text_of (Task.Classify code_file case_file) code case = ReportOf code case

abbrev pub unless_too_long : Option Refusal → Result (List ℕ) Refusal → Result (List ℕ) Refusal
unless_too_long None answer = answer
unless_too_long (Some refusal) answer = Err refusal

-- that text for files of these bytes, or the first refusal
abbrev pub answer_in_files : Task → List ℕ → List ℕ → Result (List ℕ) Refusal
answer_in_files task code case = unless_too_long (too_long code case) (text_of task code case)

abbrev pub answer_of : Result (List ℕ) Refusal → Answer
answer_of (Ok text) = record { status = 0; text = text }
answer_of (Err refusal) = record { status = 4; text = refusal_line refusal }

-- what the words are due, where they name files of these bytes
abbrev pub due : Option Task → List ℕ → List ℕ → Answer
due None code case = record { status = 2; text = [] }
due (Some task) code case = answer_of (answer_in_files task code case)
