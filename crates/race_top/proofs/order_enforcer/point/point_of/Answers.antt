use Rattle.std.proofs.Common.{ap, sym}
use Rattle.machine_model.specs.Job.{point_at}
use Rattle.machine_model.specs.Moment.{Moment}
use Rattle.machine_model.specs.declared.state.State.{State}
use Rattle.concrete_machine.specs.Course.{course_of}
use Rattle.race_top.proofs.order_enforcer.point.point_of.Goals as goal

pub returns-in_default-clause-point : goal.returns-in_default-clause-point
returns-in_default-clause-point c = λ setting snapshots same recalls.
    let moment : Moment State = record { before = course_of c.args.course; thread = c.args.thread } in
    let access = rw c.in_default.is at (c.access.ensures setting same) in
    ap (point_at snapshots moment) (sym access)

pub returns-clause-point : goal.returns-clause-point
returns-clause-point c = λ setting snapshots same recalls.
    let moment : Moment State = record { before = course_of c.args.course; thread = c.args.thread } in
    let access = rw c.in-Some.is at (c.access.ensures setting same) in
    (snapshots, recalls, ap (point_at snapshots moment) (sym access))
