use Rattle.machine_model.proofs.Policies.{choice-enabled, choice-is_last, choice-listed, choice-released, choice-turns, choice-unless_none}
use Rattle.machine_laws.proofs.chooser_follows_the_list.Goals as goal

pub returns : goal.returns
returns c = record {
  enabled = choice-enabled;
  some = choice-unless_none;
  last = choice-is_last;
  listed = choice-listed;
  released = choice-released;
  turns = choice-turns;
}
