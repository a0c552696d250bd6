use Rattle.std.proofs.Common.{◌+◌, ◌-◌, ◌∙◌, arith, ap}
use Rattle.machine_model.specs.Primary.{setting_of}
use Rattle.machine_model.specs.System.{machine_of}
use Rattle.concrete_machine.specs.Course.{choice_of, course_of}
use Rattle.race_top.specs.Seen.{recorded_from}
use Rattle.race_top.proofs.Moments.{moments-chooser, moments-chosen, moments-none}
use Rattle.race_top.proofs.trace_replay.seen.due_turn.Goals as goal

pub returns-in_default-2-clause-left : goal.returns-in_default-2-clause-left
returns-in_default-2-clause-left g c =
    let case = c.args.case.now in
    let setting = setting_of c.args.code.now case case.input in
    let system = machine_of setting in
    let left = rw c.in-Some.is at c.in_ok-course.ensures.left in
    let chosen = c.in_ok-thread.ensures.chosen case (rw c.in-Some.is at c.in_ok-course.ensures.of) in
    let none = rw c.in_default-2.is at chosen in
    left ∙ moments-none (c.args.most - c.args.place) system case.turns (course_of c.in-Some.course) none.0

pub returns-clause-left : goal.returns-clause-left
returns-clause-left g c =
    let case = c.args.case.now in
    let setting = setting_of c.args.code.now case case.input in
    let system = machine_of setting in
    let left = rw c.in-Some.is at c.in_ok-course.ensures.left in
    let within = rw c.in-Some.is at c.in_ok-course.ensures.within in
    let chosen = rw c.in-Some-2.is at c.in_ok-thread.ensures.chosen case (rw c.in-Some.is at c.in_ok-course.ensures.of) in
    let before = course_of c.in-Some.course in
    let after = course_of c.choose.new.self in
    let rest = c.args.most - (c.args.place + 1) in
    let choice = choice_of c.in-Some-2.thread after in (
      before.policy,
      left ∙ moments-chosen (c.args.most - c.args.place) rest system case.turns before choice (omega (arith, within)) chosen.0
          ∙ moments-chooser (recorded_from c.args.code.now case rest) system before after after.policy choice chosen.1,
    )

pub returns-clause-taken : goal.returns-clause-taken
returns-clause-taken g c =
    let case = c.args.case.now in
    let setting = setting_of c.args.code.now case case.input in
    let taken = rw c.in-Some.is at c.in_ok-course.ensures.taken in
    let chosen = rw c.in-Some-2.is at c.in_ok-thread.ensures.chosen case (rw c.in-Some.is at c.in_ok-course.ensures.of) in
    ap (λ course. course.turns) chosen.1 ∙ taken

pub returns-clause-may_take : goal.returns-clause-may_take
returns-clause-may_take g c =
    let case = c.args.case.now in
    let of = rw c.in-Some.is at c.in_ok-course.ensures.of in
    record {
      of = c.in_ok-thread.ensures.of case of;
      few = rw c.in-Some-2.is at c.in_ok-thread.ensures.few;
    }
