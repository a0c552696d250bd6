use Rattle.machine_model.specs.System.{machine_of}
use Rattle.machine_laws.proofs.Machines.{machine-is_system}
use Rattle.machine_laws.proofs.Larger.{run_of-lasts}
use Rattle.machine_laws.proofs.larger_budget_keeps_run.Goals as goal

pub returns : goal.returns
returns c = λ setting. run_of-lasts (machine_of setting) (machine-is_system setting)
