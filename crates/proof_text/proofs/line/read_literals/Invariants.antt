use Rattle.std.proofs.Common.{◌≡◌, length}
use Rattle.proof_text.specs.Line.{literals_onto}
use Rattle.proof_text.proofs.line.read_literals.Given as goal

abbrev pub invariant-words : goal.invariant-words
invariant-words l = literals_onto l.vars l.clause.items l.words ≡ literals_onto l.vars l.fn.clause.items l.fn.words

abbrev pub decreases-words : goal.decreases-words
decreases-words l = length l.words
