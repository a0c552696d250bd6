use Rattle.std.proofs.Common.{◌≡◌, ◌++◌, length}
use Rattle.report_text.specs.Turns.{thread_text, turns_text}
use Rattle.text_lines.specs.ThreadRun.{thread_runs}
use Rattle.report_text.proofs.Words.{after_spaces}
use Rattle.report_text.proofs.turns.push_turns.Given as goal

abbrev pub invariant-loop-run : goal.invariant-loop-run
invariant-loop-run l =
    l.text.items ++ after_spaces thread_text (thread_runs l.rest) ≡ l.fn.text.items ++ turns_text l.fn.turns

abbrev pub decreases-loop-run : goal.decreases-loop-run
decreases-loop-run l = length l.rest
