use Rattle.std.proofs.Common.{sym}
use Rattle.text_lines.proofs.Runs.{front_run}
use Rattle.text_lines.proofs.thread_run.split_first_run.Goals as goal

pub returns-clause-runs : goal.returns-clause-runs
returns-clause-runs c =
    front_run c.args.turns.now c.in_ok-thread.field-0.now c.count_front-count.result
    (sym c.in_ok-thread.ensures.value) c.count_front-count.ensures.value
