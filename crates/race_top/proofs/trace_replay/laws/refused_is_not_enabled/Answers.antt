use Rattle.machine_model.specs.System.{machine_of}
use Rattle.race_top.proofs.NotEnabled.{refused-not_enabled}
use Rattle.race_top.proofs.trace_replay.laws.refused_is_not_enabled.Goals as goal

pub returns : goal.returns
returns c = λ setting. refused-not_enabled (record {
  is_enabled = c.chooser_follows_the_list.ensures.enabled;
  is_some = c.chooser_follows_the_list.ensures.some;
  is_last = c.chooser_follows_the_list.ensures.last;
  is_listed = c.chooser_follows_the_list.ensures.listed;
}) (machine_of setting)
