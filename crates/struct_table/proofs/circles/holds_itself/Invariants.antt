use Rattle.std.proofs.Common.{◌+◌, length}
use Rattle.struct_table.proofs.Searches.{IsSearched, unmarked}
use Rattle.struct_table.proofs.circles.holds_itself.Given as goal

abbrev pub invariant-loop-next : goal.invariant-loop-next
invariant-loop-next l = IsSearched l.holds l.number l.search

abbrev pub decreases-loop-next : goal.decreases-loop-next
decreases-loop-next l = unmarked l.search.marks + length l.search.pending
