use Rattle.std.proofs.Common.{rules, ◌≡◌, ◌∙◌, ◌-◌, false, arith, sym}
use Rattle.ir_read.proofs.Advance.{row_is_wanted}
use Rattle.ir_read.proofs.wants.are_empty.Goals as goal

pub returns-then-not-is_empty : goal.returns-then-not-is_empty
returns-then-not-is_empty c =
    let some : c.is_empty.result ≡ false = search rules in
    row_is_wanted c.args.rows.now (c.loop-count.count - 1) c.loop-count.count _ (omega (arith, c.loop-count.invariant.1, c.loop-count-test.true))
    (omega (arith, c.loop-count-test.true)) (sym c.is_empty.ensures ∙ some) c.loop-count.invariant.0
