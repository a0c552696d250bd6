use Rattle.std.proofs.Common.{◌≡◌, ◌++◌, drop}
use Rattle.report_text.specs.Items.{item_text, items_text}
use Rattle.report_text.proofs.Words.{after_spaces}
use Rattle.report_text.proofs.items.push_items.Given as goal

abbrev pub invariant-loop-item : goal.invariant-loop-item
invariant-loop-item l =
    l.text.items ++ after_spaces item_text (drop l.item-index l.others) ≡ l.fn.text.items ++ items_text l.fn.items
