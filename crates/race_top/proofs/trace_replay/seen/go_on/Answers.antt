use Rattle.std.proofs.Common.{◌≡◌, ◌+◌, ◌-◌, ◌∷◌, drop, arith, ◌∙◌}
use Rattle.std.proofs.lemmas.List.{drop_all}
use Rattle.machine_model.specs.Moment.{Moment}
use Rattle.machine_model.specs.Primary.{setting_of}
use Rattle.machine_model.specs.System.{machine_of}
use Rattle.machine_model.specs.declared.state.State.{State}
use Rattle.concrete_machine.specs.Course.{course_of}
use Rattle.race_top.specs.Seen.{recorded_from}
use Rattle.race_top.proofs.Moments.{drop-next, length-left, moments-few, moments-onward, moments-over, threads_of-next}
use Rattle.race_top.proofs.trace_replay.seen.go_on.Goals as goal

pub returns-then-most-from-clause-left : goal.returns-then-most-from-clause-left
returns-then-most-from-clause-left g c =
    let code = c.args.code.now in
    let case = c.args.case.now in
    let few = moments-few c.args.most (machine_of (setting_of code case case.input)) case.turns (course_of c.args.course) in
    drop_all c.args.turns (recorded_from code case c.args.most (course_of c.args.course))
    (omega (arith, c.from.ensures))

-- no second moment is left
pub returns-in-Over-clause-left : goal.returns-in-Over-clause-left
returns-in-Over-clause-left g c =
    let code = c.args.code.now in
    let case = c.args.case.now in
    let moments = recorded_from code case c.args.most (course_of c.args.course) in
    let few = moments-over (c.args.most - c.loop.counter) (machine_of (setting_of code case case.input)) case.turns
    (course_of c.loop.course) (course_of c.in-Over.field-0) c.in-Over.field-1
    (rw c.in-Over.is at c.in_ok-next.ensures.course) in
    drop_all c.args.turns moments
    (omega (arith, length-left moments c.loop.counter 1 _ c.loop.invariant.left few))

pub loop-preserved : goal.loop-preserved
loop-preserved g c =
    let code = c.args.code.now in
    let case = c.args.case.now in
    let moments = recorded_from code case c.args.most (course_of c.args.course) in
    let next = course_of c.in-Onward.next in
    let goes = moments-onward (c.args.most - c.loop.counter) (c.args.most - (c.loop.counter + 1))
    (machine_of (setting_of code case case.input)) case.turns (course_of c.loop.course) next
    (omega (arith, c.if-most-from.false, c.loop-test.true, c.from.ensures)) (rw c.in-Onward.is at c.in_ok-next.ensures.course) in
    let moment : Moment State = record { before = course_of c.loop.course; thread = goes.choice.thread } in
    let rest = recorded_from code case (c.args.most - (c.loop.counter + 1)) next in
    let here : drop c.loop.counter moments ≡ moment ∷ rest = c.loop.invariant.left ∙ goes.moments in
    record {
      left = drop-next moments c.loop.counter moment rest here;
      taken = goes.turns
          ∙ threads_of-next c.args.course.turns.items c.loop.course.turns.items moments c.loop.counter moment rest here c.loop.invariant.taken;
      of = rw c.in-Onward.is at c.in_ok-next.ensures.of;
    }
