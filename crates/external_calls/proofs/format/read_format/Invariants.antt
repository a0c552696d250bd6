use Rattle.std.proofs.Common.{◌≡◌, drop}
use Rattle.external_calls.specs.Format.{pieces_from, pieces_of}
use Rattle.external_calls.proofs.Reading.{completed}
use Rattle.external_calls.proofs.format.read_format.Given as goal

abbrev pub invariant-loop-byte : goal.invariant-loop-byte
invariant-loop-byte l =
    completed l.pieces.done.items l.pieces.literal.items (pieces_from l.mode (drop l.byte-index l.bytes)) ≡ pieces_of l.bytes
