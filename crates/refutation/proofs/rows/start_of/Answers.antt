use Rattle.std.proofs.Common.{◌∙◌, ap, sym, arith}
use Rattle.refutation.specs.Rows.{start}
use Rattle.refutation.proofs.Cut.{start-later, start-zero}
use Rattle.refutation.proofs.rows.start_of.Goals as goal

pub returns-then-at-eq0 : goal.returns-then-at-eq0
returns-then-at-eq0 c = start-zero 0 c.args.ends.now ∙ ap (start 0 c.args.ends.now) (sym c.if-at-eq0.true)

pub returns : goal.returns
returns c = start-later 0 c.args.ends.now c.args.at (let h = c.if-at-eq0.false in omega (arith, h))
