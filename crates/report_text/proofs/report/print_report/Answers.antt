use Rattle.std.proofs.Common.{◌<◌, ◌∙◌, length, arith}
use Rattle.report_text.proofs.Blocks.{block-written}
use Rattle.report_text.proofs.report.print_report.Goals as goal

pub loop-index-preserved : goal.loop-index-preserved
loop-index-preserved c =
    let within : c.loop-index.index < length c.args.reports.now = omega arith in
    block-written _ _ _ _ _ _ _ _ within c.index-reports-index.is c.in_ok-push_block.ensures ∙ c.loop-index.invariant
