use Rattle.report_text.specs.Items.{item_text}
use Rattle.report_text.proofs.Words.{words-begun}
use Rattle.report_text.proofs.items.push_items.Goals as goal

pub loop-item-init : goal.loop-item-init
loop-item-init c = words-begun item_text _ _ _ _ _ c.in-Some.ensures.cases.0 c.in_ok-push_item.ensures
