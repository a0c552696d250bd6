use Rattle.std.proofs.Common.{◌∙◌, ◌-◌, Some, ap, sym, length, drop, take, arith}
use Rattle.std.proofs.lemmas.Option.{slice_get_past}
use Rattle.std.specs.Prelude.{slice_index}
use Rattle.refutation.specs.Rows.{cut}
use Rattle.refutation.proofs.Cut.{bounds, cut-at, length-cut}
use Rattle.refutation.proofs.rows.row.Goals as goal

pub returns-then-at-ends : goal.returns-then-at-ends
returns-then-at-ends g c = sym (slice_get_past (cut 0 c.args.ends.now c.args.items.now) c.args.at (omega (arith, c.if-at-ends.true, length-cut 0 c.args.ends.now c.args.items.now)))

pub returns-in_err-found : goal.returns-in_err-found
returns-in_err-found g c =
    let b = bounds 0 (length c.args.items.now) c.args.ends.now c.args.at c.requires c.if-at-ends.false in
    absurd (grind (arith, b.0, b.1, c.start_of.ensures, c.in_err-found.ensures.lookup))

pub returns : goal.returns
returns g c =
    ap Some (c.in_ok-found.ensures.lookup.0.2 ∙ ap (λ k. take (slice_index c.args.ends.now c.args.at - k) (drop k c.args.items.now)) c.start_of.ensures)
    ∙ sym (cut-at 0 c.args.ends.now c.args.items.now c.args.at c.if-at-ends.false)
