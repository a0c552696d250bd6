use Rattle.std.proofs.Common.{◌≡◌, None, take}
use Rattle.race_verdict.specs.Verdict.{first_of, primary_run}
use Rattle.race_verdict.proofs.evidence.first_primary.Given as goal

abbrev pub invariant-loop-job : goal.invariant-loop-job
invariant-loop-job l = first_of (primary_run l.path) (take l.job-index l.results) ≡ None
