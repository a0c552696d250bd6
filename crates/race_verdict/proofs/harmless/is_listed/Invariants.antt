use Rattle.std.proofs.Common.{◌≡◌, false, take}
use Rattle.std.specs.List.{list_any}
use Rattle.race_verdict.specs.Verdict.{same_run}
use Rattle.race_verdict.proofs.harmless.is_listed.Given as goal

abbrev pub invariant-loop-run : goal.invariant-loop-run
invariant-loop-run l = list_any (λ run. same_run run l.other) (take l.run-index l.runs) ≡ false
