use Rattle.std.proofs.Common.{◌≡◌, length}
use Rattle.proof_text.specs.Line.{hints_onto}
use Rattle.proof_text.proofs.line.read_hints.Given as goal

abbrev pub invariant-words : goal.invariant-words
invariant-words l = hints_onto l.hints.items l.words ≡ hints_onto l.fn.hints.items l.fn.words

abbrev pub decreases-words : goal.decreases-words
decreases-words l = length l.words
