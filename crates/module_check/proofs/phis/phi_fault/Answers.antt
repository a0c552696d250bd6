use Rattle.std.proofs.Common.{◌∙◌, List, ap, sym}
use Rattle.std.specs.List.{list_any}
use Rattle.ir_read.specs.Node.{Told}
use Rattle.ir_items.specs.Item.{body_of}
use Rattle.ir_items.specs.declared.segment.Cut.TheVariants as cuts
use Rattle.module_check.proofs.NoPhis.{no_phi_lacks}
use Rattle.module_check.specs.Shape.{is_phi_by}
use Rattle.module_check.proofs.phis.phi_fault.Goals as goal

pub returns-then-not-has_phi : goal.returns-then-not-has_phi
returns-then-not-has_phi c =
    let body : List Told = body_of c.args.item.now in
    no_phi_lacks c.args.names.now c.args.blocks body (c.segments_are_the_nodes.ensures.whole cuts.Statements body)
    (ap (λ (nodes : List Told). list_any (λ node. is_phi_by node.terminal) nodes) (sym c.body-body.ensures) ∙ sym c.has_phi.ensures ∙ c.if-not-has_phi.true)
