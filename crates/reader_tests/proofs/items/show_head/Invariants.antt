use Rattle.std.proofs.Common.{length}
use Rattle.reader_tests.proofs.items.show_head.Given as goal

abbrev pub decreases-loop-parameter : goal.decreases-loop-parameter
decreases-loop-parameter l = length l.parameters
