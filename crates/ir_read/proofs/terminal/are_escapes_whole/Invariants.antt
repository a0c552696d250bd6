use Rattle.std.proofs.Common.{◌≡◌, drop}
use Rattle.ir_read.specs.declared.terminal.Escape.TheVariants as escapes
use Rattle.ir_read.specs.Terminal.{are_escapes_whole}
use Rattle.ir_read.proofs.terminal.are_escapes_whole.Given as goal

abbrev pub invariant-loop-byte : goal.invariant-loop-byte
invariant-loop-byte l = are_escapes_whole l.escape (drop l.byte-index l.quoted) ≡ are_escapes_whole escapes.Outside l.quoted
