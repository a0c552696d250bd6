use Rattle.std.proofs.Common.{length}
use Rattle.reader_tests.proofs.items.show_items.Given as goal

abbrev pub decreases-loop-item : goal.decreases-loop-item
decreases-loop-item l = length l.items
