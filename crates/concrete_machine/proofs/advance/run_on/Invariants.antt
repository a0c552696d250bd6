use Rattle.std.proofs.Common.{◌≡◌, ◌-◌, ℕ}
use Rattle.machine_model.specs.Turn.{steps_within, steps_from}
use Rattle.concrete_machine.specs.Effect.{footprint_with}
use Rattle.concrete_machine.proofs.advance.run_on.Given as goal

-- what is left of the turn is what the whole turn gives
abbrev pub invariant-loop : goal.invariant-loop
invariant-loop l = (number : ℕ) →
    steps_within (l.most - l.counter) l.setting number (footprint_with l.thread l.objects) l.left l.decided.items
    ≡ steps_from l.fn.setting number (footprint_with l.fn.thread l.fn.objects) l.fn.left l.fn.decided.items
