-- The block of a race in a report: its class, and the evidence for it.
use Rattle.std.specs.Prelude.{ℕ, List, [], ◌∷◌, ◌++◌, codes, decimal, length}
use Rattle.std.specs.List.{flat_map}
use Rattle.ir_types.specs.declared.«module».Module.{Module}
use Rattle.run_types.specs.declared.run.Reason.{Reason}
use Rattle.run_types.specs.declared.run.Reason.TheVariants as reasons
use Rattle.race_verdict.specs.declared.verdict.HarmlessRun.{HarmlessRun}
use Rattle.race_verdict.specs.declared.verdict.Verdict.{Verdict}
use Rattle.race_verdict.specs.declared.verdict.Verdict.TheVariants.{SpecViolated, SingleOrdering, OutputDiffers, Unresolved, Harmless}
use Rattle.report_text.specs.declared.report.RaceReport.{RaceReport}
use Rattle.report_text.specs.Input.{input_text}
use Rattle.report_text.specs.Items.{items_text}
use Rattle.report_text.specs.Outcome.{outcome_text}
use Rattle.report_text.specs.Turns.{turns_text}

-- a keyword and what it is of
abbrev pub line : List ℕ → List ℕ → List ℕ
line keyword text = keyword ++ codes " " ++ text

-- a path, and a schedule on it
abbrev pub pair_text : ℕ → ℕ → List ℕ
pair_text path schedule = decimal path ++ codes " " ++ decimal schedule

abbrev pub reason_name : Reason → List ℕ
reason_name reasons.Stuck = codes "stuck"
reason_name reasons.Repeats = codes "repeats"
reason_name reasons.Ended = codes "ended"
reason_name reasons.Diverged = codes "diverged"

-- the class, with the reason or the number of runs that belongs to it
abbrev pub class_text : Verdict → List ℕ
class_text (SpecViolated path schedule input turns fault) = codes "SPEC-VIOLATED"
class_text (SingleOrdering reason turns) = line (codes "SINGLE-ORDERING") (reason_name reason)
class_text (OutputDiffers path schedule input primary prints turns output) = codes "OUTPUT-DIFFERS"
class_text (Unresolved path schedule input turns) = codes "UNRESOLVED"
class_text (Harmless runs) = line (codes "HARMLESS") (decimal (length runs))

-- a harmless run, and an input of its path whose primary prints the same
abbrev pub harmless_lines : HarmlessRun → List (List ℕ)
harmless_lines run =
    line (codes "run") (pair_text run.path run.schedule)
    ∷ line (codes "input") (input_text run.input)
    ∷ line (codes "turns") (turns_text run.turns)
    ∷ line (codes "output") (items_text run.output)
    ∷ line (codes "admitted") (input_text run.admitted)
    ∷ []

abbrev pub evidence_lines : Module → Verdict → List (List ℕ)
evidence_lines code (SpecViolated path schedule input turns fault) =
    line (codes "job") (pair_text path schedule)
    ∷ line (codes "input") (input_text input)
    ∷ line (codes "turns") (turns_text turns)
    ∷ line (codes "fault") (outcome_text code fault)
    ∷ []
evidence_lines code (SingleOrdering reason turns) = line (codes "turns") (turns_text turns) ∷ []
evidence_lines code (OutputDiffers path schedule input primary prints turns output) =
    line (codes "job") (pair_text path schedule)
    ∷ line (codes "input") (input_text input)
    ∷ line (codes "primary") (turns_text primary)
    ∷ line (codes "prints") (items_text prints)
    ∷ line (codes "turns") (turns_text turns)
    ∷ line (codes "output") (items_text output)
    ∷ []
evidence_lines code (Unresolved path schedule input turns) =
    line (codes "job") (pair_text path schedule)
    ∷ line (codes "input") (input_text input)
    ∷ line (codes "turns") (turns_text turns)
    ∷ []
evidence_lines code (Harmless runs) = flat_map harmless_lines runs

-- the race of this number, its two turns and its class
abbrev pub race_line : ℕ → RaceReport → List ℕ
race_line number report =
    line (codes "race") (decimal number ++ codes " " ++ decimal report.first ++ codes " " ++ decimal report.second
    ++ codes " " ++ class_text report.verdict)

unfoldable pub block_lines : Module → ℕ → RaceReport → List (List ℕ)
block_lines code number report = race_line number report ∷ evidence_lines code report.verdict
