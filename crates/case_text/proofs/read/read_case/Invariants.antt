use Rattle.std.proofs.Common.{◌≡◌, length}
use Rattle.case_text.specs.Read.{lines_from}
use Rattle.case_text.proofs.read.read_case.Given as goal

abbrev pub invariant-lines : goal.invariant-lines
invariant-lines l =
    lines_from l.code l.progress l.number l.lines ≡ lines_from l.code l.initial.progress l.initial.number l.initial.lines

abbrev pub decreases-lines : goal.decreases-lines
decreases-lines l = length l.lines
