use Rattle.machine_model.specs.System.{machine_of}
use Rattle.machine_laws.proofs.Moments.{moments-are_turns}
use Rattle.machine_laws.proofs.Unrepeated.{unrepeated-is_run}
use Rattle.machine_laws.proofs.moments_are_turns.Goals as goal

pub returns : goal.returns
returns c = record {
  moments = λ setting. moments-are_turns (machine_of setting);
  unrepeated = λ setting. unrepeated-is_run (machine_of setting);
}
