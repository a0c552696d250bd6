use Rattle.std.proofs.Common.{refl, sym}
use Rattle.race_top.proofs.trace_replay.seen.Due.see.Goals as goal

pub returns : goal.returns
returns c = λ setting policy same. record { thread = refl; access = sym (c.access.ensures setting same) }
