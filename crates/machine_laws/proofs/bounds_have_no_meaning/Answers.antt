use Rattle.std.proofs.Common.{arith, ◌+◌}
use Rattle.machine_model.specs.System.{machine_of}
use Rattle.machine_laws.proofs.Budget.{run_of-agrees}
use Rattle.machine_laws.proofs.Machines.{machine-is_system}
use Rattle.machine_laws.proofs.Numbers.{numbers-need_no_more}
use Rattle.machine_model.proofs.Payment.{steps_within-agrees}
use Rattle.machine_laws.proofs.bounds_have_no_meaning.Goals as goal

pub returns-clause-numbers : goal.returns-clause-numbers
returns-clause-numbers c = numbers-need_no_more

pub returns-clause-turn : goal.returns-clause-turn
returns-clause-turn c = λ setting number footprint left decided most h.
    steps_within-agrees setting number most (left + 1) footprint left decided h (omega arith)

pub returns-clause-run : goal.returns-clause-run
returns-clause-run c = λ setting. run_of-agrees (machine_of setting) (machine-is_system setting)
