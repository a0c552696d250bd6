use Rattle.std.proofs.Common.{◌≡◌, drop}
use Rattle.external_calls.specs.Prototype.{find}
use Rattle.external_calls.proofs.call.find.Given as goal

abbrev pub invariant-loop-call : goal.invariant-loop-call
invariant-loop-call l = find (drop l.call-index l.calls) l.name ≡ find l.calls l.name
