use Rattle.std.proofs.Common.{ap, ◌∙◌}
use Rattle.machine_model.specs.Reach.{is_second}
use Rattle.machine_model.specs.System.{machine_of}
use Rattle.concrete_machine.specs.Course.{course_of}
use Rattle.race_top.proofs.Holds.{second-thread}
use Rattle.race_top.proofs.order_enforcer.hold.does_second.Goals as goal

pub returns-then-thread-race : goal.returns-then-thread-race
returns-then-thread-race c = λ setting same.
    c.is_second.ensures
    ∙ ap (is_second c.args.race.now c.args.first) (c.access.ensures setting same)
    ∙ second-thread (machine_of setting) c.args.race.now c.args.first
    (record { before = course_of c.args.course.now; thread = c.args.thread }) c.if-thread-race.true
