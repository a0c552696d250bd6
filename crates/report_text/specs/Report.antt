-- The text of a report: a block for each race.
use Rattle.std.specs.Prelude.{ℕ, ◌+◌, List, [], ◌∷◌, ◌++◌, codes}
use Rattle.ir_types.specs.declared.«module».Module.{Module}
use Rattle.report_text.specs.declared.report.RaceReport.{RaceReport}
use Rattle.report_text.specs.Block.{block_lines}
use Rattle.text_lines.specs.Part.{lines_text}

-- the blocks of the races from this number on
unfoldable pub blocks_from : Module → ℕ → List RaceReport → List (List ℕ)
blocks_from code number [] = []
blocks_from code number (report ∷ reports) = block_lines code number report ++ blocks_from code (number + 1) reports

-- races are numbered from 1
unfoldable pub report_text : List RaceReport → Module → List ℕ
report_text reports code =
    lines_text (codes "portend-report 1" ∷ blocks_from code 1 reports ++ codes "end" ∷ [])
