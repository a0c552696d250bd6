use Rattle.std.proofs.Common.{◌≡◌, take}
use Rattle.ir_names.specs.Number.{value_of}
use Rattle.ir_names.proofs.number.short_value.Given as goal

abbrev pub invariant-loop-byte : goal.invariant-loop-byte
invariant-loop-byte l = l.value ≡ value_of (take l.byte-index l.digits)
