use Rattle.std.proofs.Common.{sym, subst}
use Rattle.ir_layout.specs.Extent.{kept}
use Rattle.struct_table.proofs.Growth.{IsGrown, grown_settled, none_grown, pass_closes, pass_grown, pass_smaller, settle_grown}
use Rattle.struct_table.proofs.settling.settled.Goals as goal

pub loop-number-init : goal.loop-number-init
loop-number-init c =
    let keep = kept c.args.overflow in
    subst (IsGrown keep c.args.names.now c.args.types.now) (sym c.in_ok-known.ensures) (none_grown keep c.args.names.now c.args.types.now)

pub loop-number-preserved : goal.loop-number-preserved
loop-number-preserved c =
    let keep = kept c.args.overflow in
    subst (IsGrown keep c.args.names.now c.args.types.now) (sym c.in_ok-settle.ensures)
    (settle_grown keep c.args.names.now c.args.types.now c.loop-number.known _ c.loop-number.invariant)

pub loop-more-smaller : goal.loop-more-smaller
loop-more-smaller c =
    pass_smaller (kept c.args.overflow) c.args.names.now c.args.types.now c.loop-more.known c.settle_all.new.known c.open_count-before.result
    c.open_count.result c.loop-more.more c.loop-more-test.true c.in_ok-settle_all.ensures c.open_count-before.ensures c.open_count.ensures

pub loop-more-preserved : goal.loop-more-preserved
loop-more-preserved c =
    let keep = kept c.args.overflow in
    let grown = c.loop-more.invariant.grown in
    record {
      grown = pass_grown keep c.args.names.now c.args.types.now c.loop-more.known c.settle_all.new.known c.in_ok-settle_all.ensures grown;
      closed = λ more. pass_closes keep c.args.names.now c.args.types.now c.loop-more.known c.settle_all.new.known c.open_count-before.result
          c.open_count.result c.in_ok-settle_all.ensures c.open_count-before.ensures c.open_count.ensures grown more;
    }

pub returns : goal.returns
returns c =
    grown_settled (kept c.args.overflow) c.args.names.now c.args.types.now c.loop-more.known c.loop-more.invariant.grown
    (c.loop-more.invariant.closed c.loop-more-test.false)
