use Rattle.std.proofs.Common.{ap, ◌∙◌}
use Rattle.std.proofs.Math.Path.{fun_ext}
use Rattle.std.proofs.lemmas.Result.{IfOk-weaker}
use Rattle.ir_layout.specs.Extent.{kept}
use Rattle.ir_layout.specs.Walk.{extent_by}
use Rattle.ir_layout.proofs.Layouts.{measured}
use Rattle.ir_layout.proofs.layout.extent_of.Goals as goal

pub returns-clause-layout : goal.returns-clause-layout
returns-clause-layout g c = λ named are alike shape spells.
    let same = ap (λ table. extent_by (kept c.args.overflow) table c.args.nodes.now) (fun_ext alike) in
    IfOk-weaker c.walked.result _ _ (λ extent is. is ∙ (same ∙ measured c.args.overflow named shape c.args.nodes.now are spells)) c.walked.ensures
