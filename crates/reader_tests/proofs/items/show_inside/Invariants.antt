use Rattle.std.proofs.Common.{length}
use Rattle.reader_tests.proofs.items.show_inside.Given as goal

abbrev pub decreases-loop-phrase : goal.decreases-loop-phrase
decreases-loop-phrase l = length l.phrases
