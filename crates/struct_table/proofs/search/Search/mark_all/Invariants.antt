use Rattle.std.proofs.Common.{◌≡◌, drop}
use Rattle.struct_table.specs.Search as spec
use Rattle.struct_table.proofs.search.Search.mark_all.Given as goal

abbrev pub invariant-loop-number : goal.invariant-loop-number
invariant-loop-number l =
    spec.with_marks l.self (drop l.number-index l.numbers) ≡ spec.with_marks l.initial.self l.numbers
