-- The blocks of some races are the block of the first, and then those of the others.
use Rattle.std.proofs.Common.{◌≡◌, ℕ, ◌+◌, ◌<◌, List, ◌∷◌, ◌++◌, drop, length, slice_index_or, sym, ap, ◌∙◌, append_assoc}
use Rattle.std.proofs.lemmas.List.{drop_more}
use Rattle.ir_types.specs.declared.«module».Module.{Module}
use Rattle.report_text.specs.declared.report.RaceReport.{RaceReport}
use Rattle.report_text.specs.Block.{block_lines}
use Rattle.text_lines.specs.Part.{lines_text}
use Rattle.report_text.specs.Report.{blocks_from}
use Rattle.report_text.proofs.Lines.{lines_text_append}

-- the text of the blocks from a number on, and of the lines after them
abbrev rest_text : Module → ℕ → List RaceReport → List (List ℕ) → List ℕ
rest_text code number reports after = lines_text (blocks_from code number reports ++ after)

rest_text-cons : (code : Module) (number : ℕ) (report : RaceReport) (reports : List RaceReport) (after : List (List ℕ)) →
    rest_text code number (report ∷ reports) after
    ≡ lines_text (block_lines code number report) ++ rest_text code (number + 1) reports after
unfolding blocks_from
rest_text-cons code number report reports after =
    let block = block_lines code number report in
    let blocks = blocks_from code (number + 1) reports in
    ap lines_text (append_assoc block blocks after) ∙ lines_text_append block (blocks ++ after)

-- one more block is written
pub block-written : (code : Module) (number index : ℕ) (reports : List RaceReport) (report : RaceReport)
    (after : List (List ℕ)) (old new : List ℕ) →
    index < length reports → report ≡ slice_index_or reports index report →
    new ≡ old ++ lines_text (block_lines code number report) →
    new ++ rest_text code (number + 1) (drop (index + 1) reports) after
    ≡ old ++ rest_text code number (drop index reports) after
block-written code number index reports report after old new within is wrote =
    let later = drop (index + 1) reports in
    let here : drop index reports ≡ report ∷ later =
    drop_more reports index report within ∙ ap (λ first. first ∷ later) (sym is) in
    ap (λ front. front ++ rest_text code (number + 1) later after) wrote
    ∙ append_assoc old (lines_text (block_lines code number report)) (rest_text code (number + 1) later after)
    ∙ ap (λ text. old ++ text) (sym (rest_text-cons code number report later after))
    ∙ ap (λ reports. old ++ rest_text code number reports after) (sym here)
