use Rattle.std.proofs.Common.{◌∙◌, ap, take}
use Rattle.refutation.proofs.Cut.{are-cut_back, cut-cut_back}
use Rattle.refutation.proofs.rows.Rows.truncate.Goals as goal

pub invariant_of-self : goal.invariant_of-self
invariant_of-self g c =
    are-cut_back c.args.len c.self.inside.ends.items c.cut_back.new.ends.items c.self.inside.items.items c.cut_back.new.items.items
    c.self.invariant c.cut_back.ensures.ends c.cut_back.ensures.items

pub returns : goal.returns
returns g c =
    cut-cut_back c.args.len c.self.inside.ends.items c.cut_back.new.ends.items c.self.inside.items.items c.cut_back.new.items.items
    c.self.invariant c.cut_back.ensures.ends c.cut_back.ensures.items
    ∙ ap (take c.args.len) c.self.view_is
