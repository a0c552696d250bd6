use Rattle.std.proofs.Common.{◌≡◌, None, take}
use Rattle.race_verdict.specs.Verdict.{difference, first_of}
use Rattle.race_verdict.proofs.evidence.first_difference.Given as goal

abbrev pub invariant-loop-job : goal.invariant-loop-job
invariant-loop-job l = first_of (difference l.results) (take l.job-index l.results) ≡ None
