use Rattle.std.proofs.Common.{◌≡◌, ◌++◌, drop}
use Rattle.std.specs.List.{flat_map}
use Rattle.report_text.specs.Block.{harmless_lines}
use Rattle.text_lines.specs.Part.{lines_text}
use Rattle.report_text.proofs.block.push_harmless_runs.Given as goal

abbrev pub invariant-loop-run : goal.invariant-loop-run
invariant-loop-run l =
    l.text.items ++ lines_text (flat_map harmless_lines (drop l.run-index l.runs))
    ≡ l.fn.text.items ++ lines_text (flat_map harmless_lines l.fn.runs)
