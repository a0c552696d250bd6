use Rattle.machine_laws.proofs.Machines.{machine-is_system}
use Rattle.machine_laws.proofs.machine_is_system.Goals as goal

pub returns : goal.returns
returns c = machine-is_system
