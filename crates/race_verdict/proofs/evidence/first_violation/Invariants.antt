use Rattle.std.proofs.Common.{◌≡◌, None, filter, take}
use Rattle.race_verdict.specs.Verdict.{counts, first_of, violation}
use Rattle.race_verdict.proofs.evidence.first_violation.Given as goal

abbrev pub invariant-loop-job : goal.invariant-loop-job
invariant-loop-job l = first_of violation (filter (counts l.primary_alone) (take l.job-index l.results)) ≡ None
