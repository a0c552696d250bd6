use Rattle.std.proofs.Common.{◌≡◌, [], drop}
use Rattle.struct_table.specs.Parts as spec
use Rattle.struct_table.proofs.parts.inside_of.Given as goal

abbrev pub invariant-loop-number : goal.invariant-loop-number
invariant-loop-number l =
    spec.inside_from l.parts l.by l.found.items (drop l.number-index l.numbers) ≡ spec.inside_from l.parts l.by [] l.numbers
