use Rattle.machine_model.specs.System.{machine_of}
use Rattle.machine_laws.proofs.Alternates.{alternate-is_whole}
use Rattle.machine_laws.proofs.Machines.{machine-is_system}
use Rattle.machine_laws.proofs.alternates_are_whole.Goals as goal

pub returns : goal.returns
returns c = λ setting. alternate-is_whole (machine_of setting) (machine-is_system setting)
