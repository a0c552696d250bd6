use Rattle.std.proofs.Common.{sym}
use Rattle.refutation.proofs.Cut.{length-cut}
use Rattle.refutation.proofs.rows.count.Goals as goal

pub returns : goal.returns
returns g c = sym (length-cut 0 c.args.ends.now c.args.items.now)
