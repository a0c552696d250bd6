use Rattle.std.proofs.Common.{◌≡◌, ◌+◌, length}
use Rattle.proof_text.specs.Reading.{lines_from, reading_of}
use Rattle.proof_text.proofs.read.read_proofs.Given as goal

abbrev pub invariant-lines : goal.invariant-lines
invariant-lines l = record {
  value : lines_from (reading_of l.progress) l.number l.lines ≡ lines_from (reading_of l.initial.progress) l.initial.number l.initial.lines;
  count : l.number + length l.lines ≡ l.initial.number + length l.initial.lines;
}

abbrev pub decreases-lines : goal.decreases-lines
decreases-lines l = length l.lines
