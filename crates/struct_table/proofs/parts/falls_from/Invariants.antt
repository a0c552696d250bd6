use Rattle.std.proofs.Common.{◌≡◌, drop}
use Rattle.struct_table.specs.Parts as spec
use Rattle.struct_table.proofs.parts.falls_from.Given as goal

abbrev pub invariant-loop-number : goal.invariant-loop-number
invariant-loop-number l =
    spec.falls_from l.parts l.by l.falls (drop l.number-index l.numbers) ≡ spec.falls_from l.parts l.by l.before l.numbers
