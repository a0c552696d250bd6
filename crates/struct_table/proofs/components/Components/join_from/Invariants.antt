use Rattle.std.proofs.Common.{length}
use Rattle.struct_table.proofs.components.Components.join_from.Given as goal

abbrev pub decreases-loop-self : goal.decreases-loop-self
decreases-loop-self l = length l.self.firsts
