use Rattle.ir_items.proofs.SegmentLaws.{items_are}
use Rattle.ir_items.proofs.laws.items_begin_with_an_item.Goals as goal

pub returns : goal.returns
returns c = items_are
