use Rattle.std.proofs.Common.{◌∙◌, ◌++◌, ◌∷◌, [], ap}
use Rattle.refutation.proofs.Cut.{are-pushed, cut-pushed}
use Rattle.refutation.proofs.rows.Rows.push.Goals as goal

pub invariant_of-self-2 : goal.invariant_of-self-2
invariant_of-self-2 g c =
    are-pushed c.self.inside.ends.items c.push_onto.new.ends.items c.self.inside.items.items c.args.row.now c.push_onto.new.items.items
    c.self.invariant c.in_ok-push_onto.ensures.items c.in_ok-push_onto.ensures.ends

pub returns-clause-pushed : goal.returns-clause-pushed
returns-clause-pushed g c =
    cut-pushed c.self.inside.ends.items c.push_onto.new.ends.items c.self.inside.items.items c.args.row.now c.push_onto.new.items.items
    c.self.invariant c.in_ok-push_onto.ensures.items c.in_ok-push_onto.ensures.ends
    ∙ ap (λ rows. rows ++ c.args.row.now ∷ []) c.self.view_is
