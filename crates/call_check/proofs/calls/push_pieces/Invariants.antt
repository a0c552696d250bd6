use Rattle.std.proofs.Common.{◌≡◌, ◌++◌, drop}
use Rattle.call_check.specs.Call as spec
use Rattle.call_check.proofs.calls.push_pieces.Given as goal

abbrev pub invariant-loop-piece : goal.invariant-loop-piece
invariant-loop-piece l =
    l.parameters.items ++ spec.parameters_in (drop l.piece-index l.pieces) ≡ l.initial.parameters.items ++ spec.parameters_in l.pieces
