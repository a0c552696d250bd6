use Rattle.std.proofs.Common.{◌≡◌, bytes_eq, length}
use Rattle.ir_read.proofs.words.is_same.Given as goal

abbrev pub invariant-loop-byte : goal.invariant-loop-byte
invariant-loop-byte l = bytes_eq l.word l.name ≡ bytes_eq l.initial.word l.initial.name

abbrev pub decreases-loop-byte : goal.decreases-loop-byte
decreases-loop-byte l = length l.word
