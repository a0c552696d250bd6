use Rattle.machine_laws.proofs.Alternates.{alternate-is_whole}
use Rattle.machine_laws.proofs.Budget.{run_of-agrees, run_of-within}
use Rattle.machine_laws.proofs.HoldLaws.{ends-have_causes, held-waits}
use Rattle.machine_laws.proofs.Larger.{run_of-lasts}
use Rattle.machine_laws.proofs.Moments.{moments-are_turns}
use Rattle.machine_laws.proofs.OtherOrder.{hold-turns_round}
use Rattle.machine_model.proofs.Policies.{choice-enabled, choice-is_last, choice-listed, choice-unless_none}
use Rattle.machine_laws.proofs.Replays.{run_of-turns}
use Rattle.machine_laws.proofs.Unrepeated.{unrepeated-is_run}
use Rattle.machine_laws.proofs.systems_have_laws.Goals as goal

pub returns : goal.returns
returns g c = record {
  bound = λ system facts. run_of-agrees system facts;
  within = λ system facts. run_of-within system facts;
  larger = λ system facts. run_of-lasts system facts;
  moments = λ system. moments-are_turns system;
  unrepeated = λ system. unrepeated-is_run system;
  again = λ system. run_of-turns (record {
    is_enabled = choice-enabled;
    is_some = choice-unless_none;
    is_last = choice-is_last;
    is_listed = choice-listed;
  }) system;
  waits = λ system. held-waits system;
  causes = λ system. ends-have_causes system;
  order = λ system facts. hold-turns_round system facts;
  whole = λ system facts. alternate-is_whole system facts;
}
