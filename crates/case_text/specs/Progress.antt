-- What was read of a case so far, and each kind of line that is taken in.
use Rattle.std.specs.Prelude.{ℕ, ◌+◌, ◌*◌, ◌^◌, Bool, not, ◌&&◌, ◌==◌, nat_lt, nat_le, List, [], ◌∷◌, ◌++◌, length, Option, Some, None, Result, Ok, Err, if◌then◌else◌}
use Rattle.std.specs.Option.{is_some}
use Rattle.ir_types.specs.declared.«module».Module.{Module}
use Rattle.ir_types.specs.declared.input.Input.{Input}
use Rattle.run_types.specs.declared.case.Case.{Case}
use Rattle.rc_base.specs.Failures.{◌>>=◌, or_error}
use Rattle.case_text.specs.declared.error.CaseError.{CaseError}
use Rattle.case_text.specs.declared.error.CaseError.TheVariants.{Syntax, Range, Slot}
use Rattle.case_text.specs.declared.keyword.Field.{Field as OneNumber}
use Rattle.case_text.specs.declared.keyword.Field.TheVariants.{Seed, Steps, Visits, Paths, Schedules}
use Rattle.case_text.specs.declared.keyword.Keyword.{Keyword}
use Rattle.case_text.specs.declared.keyword.Keyword.TheVariants as keywords
use Rattle.case_text.specs.declared.line.Line.{Line}
use Rattle.case_text.specs.declared.line.Line.TheVariants.{Heading, Field, Input as InputLine, Watch, Turns, Race, End}
use Rattle.case_text.specs.declared.progress.Progress.{Progress}
use Rattle.case_text.specs.Keyword.{after_field, least_of, may_stand, most_of}
use Rattle.case_text.specs.Line.{keyword_in, line_of}
use Rattle.case_text.specs.Watch.{with_watch}
use Rattle.case_text.specs.Words.{is_input}
use Rattle.text_lines.specs.RunWord.{count_of, run_turns}
use Rattle.text_lines.specs.declared.run_word.RunWord.{RunWord}
use Rattle.std.proofs.Math.Nat.{not-suc-le-zero}

abbrev pub progress : Option Keyword → Case → Progress
progress next case = record { next = next; case = case }

abbrev pub no_input : Input
no_input = record { slots = []; rising = λ k below. absurd (not-suc-le-zero below) }

abbrev pub no_case : Case
no_case = record {
  seed = 0;
  steps = 0;
  visits = 0;
  paths = 0;
  schedules = 0;
  input = no_input;
  watch = [];
  turns = [];
  races = [];
}

-- before the first line
abbrev pub start : Progress
start = progress (Some keywords.Heading) no_case

-- nothing follows the end
abbrev pub is_ended : Progress → List ℕ → Bool
is_ended here last = not (is_some here.next) && length last == 0

abbrev pub is_within : OneNumber → ℕ → Bool
is_within field number = nat_le (least_of field) number && nat_le number (most_of field)

abbrev pub with_field : OneNumber → ℕ → Case → Case
with_field Seed number case = record case { seed = number }
with_field Steps number case = record case { steps = number }
with_field Visits number case = record case { visits = number }
with_field Paths number case = record case { paths = number }
with_field Schedules number case = record case { schedules = number }

-- a run of one of 16 threads, of one turn or more, and with it no more turns than a case may have
abbrev pub is_in_range : List ℕ → RunWord → Bool
is_in_range turns run =
    nat_lt run.thread 16 && nat_le 1 (count_of run.times) && nat_le (length turns + count_of run.times) 20000

-- the turns with those of the runs behind them, where each run is in its range
unfoldable pub with_runs : List RunWord → List ℕ → Option (List ℕ)
with_runs [] turns = Some turns
with_runs (run ∷ runs) turns = if is_in_range turns run then with_runs runs (turns ++ run_turns run) else None

-- Not served yet: more than one race.
abbrev pub is_race : List (ℕ × ℕ) → ℕ → ℕ → Bool
is_race races first second = nat_lt first (2 ^ 32) && nat_lt second (2 ^ 32) && nat_lt (length races) 1

abbrev pub with_race : ℕ → ℕ → ℕ → List (ℕ × ℕ) → Result (List (ℕ × ℕ)) CaseError
with_race number first second races =
    if is_race races first second then Ok (races ++ (first, second) ∷ []) else Err (Range number)

-- The case with a line of this number, where the line is in its bounds. Not served yet: the module reads no input,
-- so that no line may give one.
abbrev pub with_line : Module → ℕ → Case → Line → Result Progress CaseError
with_line code number case Heading = Ok (progress (Some (keywords.Field Seed)) case)
with_line code number case (Field field value) =
    if is_within field value then Ok (progress (Some (after_field field)) (with_field field value case))
    else Err (Range number)
with_line code number case (InputLine words) = if is_input words then Err (Slot number) else Err (Range number)
with_line code number case (Watch words) =
    (with_watch code number words case.watch)
    >>= (λ sites. Ok (progress (Some keywords.Watch) (record case { watch = sites })))
with_line code number case (Turns runs) =
    (or_error (Range number) (with_runs runs case.turns))
    >>= (λ turns. Ok (progress (Some keywords.Turn) (record case { turns = turns })))
with_line code number case (Race first second) =
    (with_race number first second case.races)
    >>= (λ races. Ok (progress (Some keywords.Race) (record case { races = races })))
with_line code number case End =
    if nat_lt (2 ^ 24) (case.visits * case.steps) then Err (Range number) else Ok (progress None case)

-- with a line that may stand there
unfoldable pub step : Module → Progress → ℕ → Line → Result Progress CaseError
step code here number line =
    if may_stand here.next (keyword_in line) then with_line code number here.case line else Err (Syntax number)

-- with the line of this number, which has this text
unfoldable pub taken : Module → Progress → ℕ → List ℕ → Result Progress CaseError
taken code here number text = (or_error (Syntax number) (line_of text)) >>= step code here number
