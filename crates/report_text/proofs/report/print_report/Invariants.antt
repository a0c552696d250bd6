use Rattle.std.proofs.Common.{◌≡◌, ◌+◌, ◌++◌, [], ◌∷◌, codes, drop}
use Rattle.text_lines.specs.Part.{lines_text}
use Rattle.report_text.specs.Report.{blocks_from, report_text}
use Rattle.report_text.proofs.report.print_report.Given as goal

abbrev pub invariant-loop-index : goal.invariant-loop-index
invariant-loop-index l =
    l.text.items ++ lines_text (blocks_from l.code (l.index + 1) (drop l.index l.reports) ++ codes "end" ∷ [])
    ≡ report_text l.fn.reports l.fn.code
