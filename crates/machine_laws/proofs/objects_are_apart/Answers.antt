use Rattle.machine_laws.proofs.Apart.{death-keeps_apart, moments-are_apart, one-has_range, store-keeps_apart, turn-keeps_apart}
use Rattle.machine_laws.proofs.objects_are_apart.Goals as goal

pub returns : goal.returns
returns c = record {
  range = one-has_range;
  store = store-keeps_apart;
  death = death-keeps_apart;
  turn = turn-keeps_apart;
  moments = moments-are_apart;
}
