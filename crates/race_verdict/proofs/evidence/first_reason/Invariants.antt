use Rattle.std.proofs.Common.{◌≡◌, None, take}
use Rattle.race_verdict.specs.Verdict.{first_of, reason_of}
use Rattle.race_verdict.proofs.evidence.first_reason.Given as goal

abbrev pub invariant-loop-job : goal.invariant-loop-job
invariant-loop-job l = first_of reason_of (take l.job-index l.results) ≡ None
