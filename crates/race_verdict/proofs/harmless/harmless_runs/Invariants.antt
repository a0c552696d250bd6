use Rattle.std.proofs.Common.{◌≡◌, take}
use Rattle.std.specs.List.{filter_map}
use Rattle.race_verdict.specs.Verdict.{distinct, harmless}
use Rattle.race_verdict.proofs.harmless.harmless_runs.Given as goal

abbrev pub invariant-loop-job : goal.invariant-loop-job
invariant-loop-job l = l.runs.items ≡ distinct (filter_map harmless (take l.job-index l.results))
