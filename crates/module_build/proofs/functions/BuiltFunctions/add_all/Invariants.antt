use Rattle.std.proofs.Common.{◌≡◌, length}
use Rattle.module_build.specs.Functions.{functions_from}
use Rattle.module_build.proofs.functions.BuiltFunctions.add_all.Given as goal

abbrev pub invariant-loop-item : goal.invariant-loop-item
invariant-loop-item l =
    functions_from l.names l.structs l.self l.items ≡ functions_from l.names l.structs l.initial.self l.initial.items

abbrev pub decreases-loop-item : goal.decreases-loop-item
decreases-loop-item l = length l.items
