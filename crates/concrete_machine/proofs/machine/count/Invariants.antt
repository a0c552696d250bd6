use Rattle.std.proofs.Common.{◌≡◌, ◌+◌}
use Rattle.concrete_machine.proofs.machine.count.Given as goal

-- the steps before the counter have been counted
abbrev pub invariant-loop : goal.invariant-loop
invariant-loop g l = l.steps ≡ l.fn.steps + l.counter
