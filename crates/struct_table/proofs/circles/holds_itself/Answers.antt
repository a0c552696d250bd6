use Rattle.std.proofs.Common.{ap, sym, ◌∙◌}
use Rattle.struct_table.specs.Search.{begun}
use Rattle.struct_table.proofs.Reaching.{bare_is_free}
use Rattle.struct_table.proofs.Searches.{first_searched, next_searched, next_smaller, searched_all}
use Rattle.struct_table.proofs.circles.holds_itself.Goals as goal

pub returns-then-is_bare : goal.returns-then-is_bare
returns-then-is_bare c = sym (bare_is_free c.args.holds.now c.args.number (c.is_bare.ensures.0 c.if-is_bare.true))

pub loop-next-init : goal.loop-next-init
loop-next-init c =
    first_searched c.args.holds.now c.args.number c.in_ok-search.search c.mark_held.new.search (c.in_ok-search.ensures ∙ ap begun c.len.ensures)
    c.in_ok-mark_held.ensures

pub loop-next-smaller : goal.loop-next-smaller
loop-next-smaller c =
    next_smaller c.args.holds.now c.loop-next.search c.next.new.self c.mark_held-in-Some.new.search c.in-Some.next c.in-Some.ensures.first
    c.in-Some.ensures.marks c.in_ok-mark_held-2.ensures

pub loop-next-preserved : goal.loop-next-preserved
loop-next-preserved c =
    next_searched c.args.holds.now c.args.number c.loop-next.search c.next.new.self c.mark_held-in-Some.new.search c.in-Some.next
    c.in-Some.ensures.first c.in-Some.ensures.marks c.in_ok-mark_held-2.ensures c.loop-next.invariant

pub returns : goal.returns
returns c =
    c.is_marked.ensures
    ∙ searched_all c.args.holds.now c.args.number c.loop-next.search c.next.new.self c.in_default.ensures.first c.in_default.ensures.marks
    c.loop-next.invariant
