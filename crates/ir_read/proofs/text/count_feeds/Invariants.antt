use Rattle.std.proofs.Common.{◌≡◌, ◌≤◌, ◌==◌, count_by, take}
use Rattle.ir_read.proofs.text.count_feeds.Given as goal

abbrev pub invariant-loop-byte : goal.invariant-loop-byte
invariant-loop-byte l = (l.count ≡ count_by (λ byte. byte == 10) (take l.byte-index l.text)) × (l.count ≤ l.byte-index)
