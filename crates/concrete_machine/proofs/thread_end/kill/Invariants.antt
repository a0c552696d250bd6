use Rattle.std.proofs.Common.{◌≡◌, ◌++◌, take, drop, map}
use Rattle.machine_model.specs.Memory.{dead}
use Rattle.concrete_machine.proofs.thread_end.kill.Given as goal

-- the objects before the index have been looked at
abbrev pub invariant-loop-object : goal.invariant-loop-object
invariant-loop-object l =
    l.objects ≡ map (dead l.bases) (take l.object-index l.initial.objects) ++ drop l.object-index l.initial.objects
