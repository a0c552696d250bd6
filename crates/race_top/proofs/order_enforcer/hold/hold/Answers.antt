use Rattle.std.proofs.Common.{◌≡◌, ℕ, ◌+◌, ◌-◌, ap, sym, ◌∙◌, arith}
use Rattle.machine_model.specs.Hold.{held_from}
use Rattle.machine_model.specs.Hold.Held.{RunOver}
use Rattle.machine_model.specs.Primary.{setting_of}
use Rattle.machine_model.specs.System.{machine_of}
use Rattle.concrete_machine.specs.Course.{course_of}
use Rattle.race_top.specs.declared.order_enforcer.hold.HoldAdvance.TheVariants.{Onward, Over}
use Rattle.race_top.proofs.Holds.{hold-leads, hold-spent, ready-within}
use Rattle.race_top.proofs.order_enforcer.hold.hold.Goals as goal

pub loop-init : goal.loop-init
loop-init g c =
    let system = machine_of (setting_of c.args.code.now c.args.case.now c.args.input.now) in
    let count : c.args.course.left + 1 ≡ c.from-most.result + 1 - 0 = omega (arith, c.from-most.ensures) in
    record {
      count = omega (arith, c.from-most.ensures);
      turned = omega arith;
      left = omega arith;
      of = c.requires.of;
      same = λ snapshots recalls. (
        snapshots,
        recalls,
        ap (λ (turns : ℕ). held_from turns system c.args.case.now.turns c.args.race.now c.args.first
            snapshots (course_of c.args.course)) count,
      );
    }

pub hold_turn-requires-clause-of : goal.hold_turn-requires-clause-of
hold_turn-requires-clause-of g c = c.loop.invariant.of

pub hold_turn-requires-clause-short : goal.hold_turn-requires-clause-short
hold_turn-requires-clause-short g c =
    omega (arith, c.loop.invariant.turned, c.loop-test.true, c.from-most.ensures, c.requires.short)

pub returns-in-Over-clause-held : goal.returns-in-Over-clause-held
returns-in-Over-clause-held g c = λ snapshots recalls.
    let system = machine_of (setting_of c.args.code.now c.args.case.now c.args.input.now) in
    let from = λ (turns : ℕ). held_from turns system c.args.case.now.turns c.args.race.now c.args.first in
    let rest = c.from-most.result + 1 - (c.loop.counter + 1) in
    let so_far = c.loop.invariant.same snapshots recalls in
    let turn = rw c.in-Over.is at c.in_ok-next.ensures.held in
    hold-leads from (c.from-most.result + 1 - c.loop.counter) rest so_far.0 (course_of c.loop.course)
    (Over c.in-Over.enforced) (from (c.args.course.left + 1) snapshots (course_of c.args.course)) (omega arith) so_far.2
    (turn rest so_far.0 so_far.1)

pub returns-in-Over-clause-ready : goal.returns-in-Over-clause-ready
returns-in-Over-clause-ready g c =
    ready-within c.args.code.now c.args.case.now c.loop.course.left c.args.course.left (c.loop.past.turns + 1)
    (c.args.past.turns + c.args.course.left + 1) c.in-Over.enforced c.loop.invariant.left
    (omega (arith, c.loop.invariant.turned, c.loop-test.true, c.from-most.ensures))
    (rw c.in-Over.is at c.in_ok-next.ensures.within)

pub loop-preserved : goal.loop-preserved
loop-preserved g c =
    let system = machine_of (setting_of c.args.code.now c.args.case.now c.args.input.now) in
    let from = λ (turns : ℕ). held_from turns system c.args.case.now.turns c.args.race.now c.args.first in
    let rest = c.from-most.result + 1 - (c.loop.counter + 1) in
    let turn = rw c.in-Onward.is at c.in_ok-next.ensures.held in
    let within = rw c.in-Onward.is at c.in_ok-next.ensures.within in
    record {
      count = c.loop.invariant.count;
      turned = omega (arith, within.2, c.loop.invariant.turned);
      left = omega (arith, within.1, c.loop.invariant.left);
      of = within.0;
      same = λ snapshots recalls.
          let so_far = c.loop.invariant.same snapshots recalls in
          hold-leads from (c.from-most.result + 1 - c.loop.counter) rest so_far.0 (course_of c.loop.course)
          (Onward c.in-Onward.next c.in-Onward.noted) (from (c.args.course.left + 1) snapshots (course_of c.args.course))
          (omega arith) so_far.2 (turn rest so_far.0 so_far.1);
    }

pub returns-clause-held : goal.returns-clause-held
returns-clause-held g c = λ snapshots recalls.
    let system = machine_of (setting_of c.args.code.now c.args.case.now c.args.input.now) in
    let from = λ (turns : ℕ). held_from turns system c.args.case.now.turns c.args.race.now c.args.first in
    let so_far = c.loop.invariant.same snapshots recalls in
    hold-spent (c.from-most.result + 1 - c.loop.counter) system c.args.case.now.turns c.args.race.now
    c.args.first so_far.0 (course_of c.loop.course)
    (from (c.args.course.left + 1) snapshots (course_of c.args.course)) (omega arith) so_far.2
    ∙ ap RunOver (sym (c.conclude.ensures (setting_of c.args.code.now c.args.case.now c.args.input.now)))
