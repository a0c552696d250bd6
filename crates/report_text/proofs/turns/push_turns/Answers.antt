use Rattle.std.proofs.Common.{rules}
use Rattle.report_text.specs.Turns.{thread_text}
use Rattle.text_lines.specs.ThreadRun.{thread_runs}
use Rattle.report_text.proofs.Words.{words-begun}
use Rattle.report_text.proofs.turns.push_turns.Goals as goal

pub returns-in_default : goal.returns-in_default
unfolding thread_runs
returns-in_default c = let none = c.in_default.ensures.runs in search rules

pub loop-run-init : goal.loop-run-init
loop-run-init c = words-begun thread_text _ _ _ _ _ c.in-Some.ensures.runs c.in_ok-push_run.ensures

pub returns : goal.returns
unfolding thread_runs
returns c = let none = c.in_default-split_first_run.ensures.runs in search rules
