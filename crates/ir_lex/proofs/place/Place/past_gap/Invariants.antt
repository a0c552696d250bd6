use Rattle.std.proofs.Common.{◌≡◌, length}
use Rattle.ir_lex.specs.Place.{lexed_from}
use Rattle.ir_lex.proofs.place.Place.past_gap.Given as goal

abbrev pub invariant-loop-next : goal.invariant-loop-next
invariant-loop-next l = lexed_from l.place ≡ lexed_from l.fn.self

abbrev pub decreases-loop-next : goal.decreases-loop-next
decreases-loop-next l = length l.place.rest.now
