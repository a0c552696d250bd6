use Rattle.machine_model.specs.System.{machine_of}
use Rattle.machine_laws.proofs.Machines.{machine-is_system}
use Rattle.machine_laws.proofs.Budget.{run_of-within}
use Rattle.machine_laws.proofs.run_is_within_budget.Goals as goal

pub returns : goal.returns
returns c = λ setting. run_of-within (machine_of setting) (machine-is_system setting)
