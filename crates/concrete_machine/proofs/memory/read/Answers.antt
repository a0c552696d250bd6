use Rattle.std.proofs.Common.{Ok, ap}
use Rattle.machine_model.specs.Memory.{read}
use Rattle.concrete_machine.proofs.Ranges.{covers-found, object_of-found}
use Rattle.concrete_machine.proofs.memory.read.Goals as goal

pub number_at-requires-clause-within : goal.number_at-requires-clause-within
number_at-requires-clause-within c =
    covers-found c.args.objects.now c.args.at c.args.len c.in-Some.place c.index-objects-place.result
    (cc) c.index-objects-place.is

pub returns-in-Some : goal.returns-in-Some
unfolding read
returns-in-Some c =
    rw (object_of-found c.args.objects.now c.args.at c.args.len c.in-Some.place c.index-objects-place.result
    (cc) c.index-objects-place.is) (ap Ok c.number_at.ensures)
