use Rattle.machine_model.specs.System.{machine_of}
use Rattle.machine_laws.proofs.Replays.{run_of-turns}
use Rattle.machine_laws.proofs.turns_give_the_run.Goals as goal

pub returns : goal.returns
returns c = λ setting. run_of-turns (record {
  is_enabled = c.chooser_follows_the_list.ensures.enabled;
  is_some = c.chooser_follows_the_list.ensures.some;
  is_last = c.chooser_follows_the_list.ensures.last;
  is_listed = c.chooser_follows_the_list.ensures.listed;
}) (machine_of setting)
