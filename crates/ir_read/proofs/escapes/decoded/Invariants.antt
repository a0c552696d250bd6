use Rattle.std.proofs.Common.{◌≡◌, ◌++◌, drop}
use Rattle.ir_read.specs.declared.escapes.Begun.TheVariants as begun_as
use Rattle.ir_read.specs.Escapes as spec
use Rattle.ir_read.proofs.escapes.decoded.Given as goal

abbrev pub invariant-loop-byte : goal.invariant-loop-byte
invariant-loop-byte l = l.bytes.items ++ spec.decoded l.begun (drop l.byte-index l.text) ≡ spec.decoded begun_as.Nothing l.text
