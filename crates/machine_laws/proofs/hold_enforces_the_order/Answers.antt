use Rattle.machine_model.specs.System.{machine_of}
use Rattle.machine_laws.proofs.HoldLaws.{ends-have_causes, held-waits}
use Rattle.machine_laws.proofs.hold_enforces_the_order.Goals as goal

pub returns : goal.returns
returns c = record {
  waits = λ setting. held-waits (machine_of setting);
  causes = λ setting. ends-have_causes (machine_of setting);
}
