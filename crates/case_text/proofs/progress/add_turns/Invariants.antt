use Rattle.std.proofs.Common.{◌≡◌, length}
use Rattle.case_text.specs.Progress.{with_runs}
use Rattle.case_text.proofs.progress.add_turns.Given as goal

abbrev pub invariant-runs : goal.invariant-runs
invariant-runs l = with_runs l.runs l.turns ≡ with_runs l.initial.runs l.initial.turns

abbrev pub decreases-runs : goal.decreases-runs
decreases-runs l = length l.runs
