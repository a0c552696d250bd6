use Rattle.machine_model.specs.System.{machine_of}
use Rattle.race_top.proofs.Refusals.{replay_error-itself, replay_error-none}
use Rattle.race_top.proofs.trace_replay.laws.refusals_are_exact.Goals as goal

pub returns : goal.returns
returns c = record { own = replay_error-itself; taken = λ setting. replay_error-none (machine_of setting) }
