use Rattle.std.proofs.Common.{◌+◌, ◌-◌, arith, ◌∙◌}
use Rattle.machine_model.specs.Primary.{Primary, setting_of}
use Rattle.machine_model.specs.System.{machine_of}
use Rattle.machine_laws.proofs.Courses.{run-first_course, run-onward, run-over, run-spent}
use Rattle.concrete_machine.specs.Course.{course_of}
use Rattle.race_top.proofs.trace_replay.run_counted.Goals as goal

pub loop-init : goal.loop-init
loop-init g c = record {
  count = omega (arith, c.from-most.ensures);
  same = run-first_course (c.from-most.result + 1 - 0) (machine_of (setting_of c.args.code.now c.args.case.now c.args.input.now))
      c.args.case.now.turns c.args.case.now.steps (course_of c.in_ok-course.course) (omega (arith, c.from-most.ensures))
      c.in_ok-course.ensures.course;
  of = c.in_ok-course.ensures.of;
}

pub returns-in-Over : goal.returns-in-Over
returns-in-Over g c =
    let setting = setting_of c.args.code.now c.args.case.now c.args.input.now in
    let most = c.from-most.result + 1 in
    c.conclude.ensures setting
    ∙ run-over (most - c.loop.counter) (most - (c.loop.counter + 1)) (machine_of setting)
    c.args.case.now.turns (course_of c.loop.course) (course_of c.in-Over.last) c.in-Over.outcome
    (Primary c.args.code.now c.args.case.now c.args.input.now) (omega arith)
    (rw c.in-Over.is at c.in_ok-next.ensures.course) c.loop.invariant.same

pub loop-preserved : goal.loop-preserved
loop-preserved g c =
    let setting = setting_of c.args.code.now c.args.case.now c.args.input.now in
    let most = c.from-most.result + 1 in
    record {
      count = c.loop.invariant.count;
      same = run-onward (most - c.loop.counter) (most - (c.loop.counter + 1))
          (machine_of setting) c.args.case.now.turns
          (course_of c.loop.course) (course_of c.in-Onward.next)
          (Primary c.args.code.now c.args.case.now c.args.input.now) (omega arith)
          (rw c.in-Onward.is at c.in_ok-next.ensures.course) c.loop.invariant.same;
      of = rw c.in-Onward.is at c.in_ok-next.ensures.of;
    }

pub returns : goal.returns
returns g c =
    let setting = setting_of c.args.code.now c.args.case.now c.args.input.now in
    c.conclude-2.ensures setting
    ∙ run-spent (c.from-most.result + 1 - c.loop.counter) (machine_of setting)
    c.args.case.now.turns (course_of c.loop.course) (Primary c.args.code.now c.args.case.now c.args.input.now)
    (omega arith) c.loop.invariant.same
