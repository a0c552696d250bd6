use Rattle.std.proofs.Common.{◌∙◌, arith}
use Rattle.external_calls.proofs.Reading.{goes_on, prints, converts, ends}
use Rattle.external_calls.proofs.format.read_format.Goals as goal
use Rattle.external_calls.proofs.format.read_format.Goals.{in-Goes, in-Prints+in_ok-print-in-Prints, in-Converts+in_ok-convert-in-Converts}

pub returns-in-Ends : goal.returns-in-Ends
returns-in-Ends c =
    let loop = c.loop-byte in
    rw (c.in_ok-finish-in-Ends.ensures) (ends loop.pieces.done.items loop.pieces.literal.items c.args.bytes.now loop.byte-index loop.mode (omega arith, c.in-Ends.ensures) ∙ loop.invariant)

pub loop-byte-preserved : goal.loop-byte-preserved
loop-byte-preserved c =
    let loop = c.loop-byte in
    elim c.match-read_byte.branch [
      | in-Goes w ↦ rw (w.pieces-is, w.mode-is)
          (goes_on loop.pieces.done.items loop.pieces.literal.items c.args.bytes.now loop.byte-index loop.mode w.in-Goes.next
          (omega arith, w.in-Goes.ensures) ∙ loop.invariant)
      | in-Prints+in_ok-print-in-Prints w ↦ rw (w.pieces-is, w.mode-is, w.in_ok-print-in-Prints.ensures.done, w.in_ok-print-in-Prints.ensures.literal)
          (prints loop.pieces.done.items loop.pieces.literal.items c.args.bytes.now loop.byte-index loop.mode w.in-Prints.printed
          (omega arith, w.in-Prints.ensures) ∙ loop.invariant)
      | in-Converts+in_ok-convert-in-Converts w ↦ rw (w.pieces-is, w.mode-is, w.in_ok-convert-in-Converts.ensures.done, w.in_ok-convert-in-Converts.ensures.literal)
          (converts loop.pieces.done.items loop.pieces.literal.items c.args.bytes.now loop.byte-index loop.mode w.in-Converts.conversion
          (omega arith, w.in-Converts.ensures) ∙ loop.invariant)
    ]
