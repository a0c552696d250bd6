use Rattle.std.proofs.Common.{◌≡◌, ◌++◌, map, take}
use Rattle.text_lines.specs.Part.{lines_text}
use Rattle.proof_text.specs.Text.{step_line}
use Rattle.proof_text.proofs.write.push_steps.Given as goal

abbrev pub invariant-loop-at : goal.invariant-loop-at
invariant-loop-at l = l.text.items ≡ l.fn.text.items ++ lines_text (map step_line (take l.at l.log))
