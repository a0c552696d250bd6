use Rattle.struct_table.proofs.components.Components.go_on.Given as goal

abbrev pub decreases-loop-steps : goal.decreases-loop-steps
decreases-loop-steps l = l.steps
