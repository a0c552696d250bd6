use Rattle.std.proofs.Common.{◌≡◌, None, take}
use Rattle.race_verdict.specs.Verdict.{first_of, spending}
use Rattle.race_verdict.proofs.evidence.first_spending.Given as goal

abbrev pub invariant-loop-job : goal.invariant-loop-job
invariant-loop-job l = first_of spending (take l.job-index l.results) ≡ None
