use Rattle.std.proofs.Common.{◌≡◌, map, take}
use Rattle.machine_model.specs.Start.{object_of_global}
use Rattle.concrete_machine.proofs.starts.make_objects.Given as goal

abbrev pub invariant-loop-global : goal.invariant-loop-global
invariant-loop-global l = l.objects.items ≡ map object_of_global (take l.global-index l.globals)
