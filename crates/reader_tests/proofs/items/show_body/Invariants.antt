use Rattle.std.proofs.Common.{length}
use Rattle.reader_tests.proofs.items.show_body.Given as goal

abbrev pub decreases-loop-statement : goal.decreases-loop-statement
decreases-loop-statement l = length l.statements
