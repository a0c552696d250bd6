use Rattle.std.proofs.Common.{refl}
use Rattle.machine_model.specs.Repeat.{snapshot_of}
use Rattle.concrete_machine.specs.Course.{course_of}
use Rattle.race_top.proofs.Pasts.{recalls-start}
use Rattle.race_top.proofs.order_enforcer.past.Past.begin.Goals as goal

pub returns : goal.returns
returns c = recalls-start (snapshot_of (course_of c.args.course.now)) _ refl refl
