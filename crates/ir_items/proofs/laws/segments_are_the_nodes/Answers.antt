use Rattle.ir_items.proofs.SegmentLaws.{segments_parted, segments_whole}
use Rattle.ir_items.proofs.laws.segments_are_the_nodes.Goals as goal

pub returns-clause-whole : goal.returns-clause-whole
returns-clause-whole c = segments_whole

pub returns-clause-parted : goal.returns-clause-parted
returns-clause-parted c = segments_parted
