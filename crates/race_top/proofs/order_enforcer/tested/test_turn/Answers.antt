use Rattle.std.proofs.Common.{◌∷◌, [], ◌++◌, refl, sym, ap, ◌∙◌}
use Rattle.machine_model.specs.Begun.Begun.{Complete}
use Rattle.machine_model.specs.Primary.{setting_of}
use Rattle.machine_model.specs.Repeat.{snapshot_of}
use Rattle.concrete_machine.specs.Course.{course_of}
use Rattle.race_top.proofs.order_enforcer.tested.test_turn.Goals as goal

pub returns-then-repeats-clause-tests : goal.returns-then-repeats-clause-tests
returns-then-repeats-clause-tests g c = λ snapshots recalls.
    let setting = setting_of c.args.code.now c.args.case.now c.args.input.now in
    let onward = rw c.in-Onward.is at c.in_ok-next.ensures.course in
    let again = sym (c.repeats.ensures setting snapshots recalls) ∙ c.if-repeats.true in
    rw (onward, again, ← c.repeat.ensures snapshots recalls) (ap Complete (sym (c.conclude.ensures setting)))

pub returns-in_ok-note-in-Onward-clause-tests : goal.returns-in_ok-note-in-Onward-clause-tests
returns-in_ok-note-in-Onward-clause-tests g c = λ snapshots recalls.
    let setting = setting_of c.args.code.now c.args.case.now c.args.input.now in
    let onward = rw c.in-Onward.is at c.in_ok-next.ensures.course in
    let fresh = sym (c.repeats.ensures setting snapshots recalls) ∙ c.if-repeats.false in (
      snapshots ++ snapshot_of (course_of c.in-Onward.next) ∷ [],
      c.in_ok-note-in-Onward.ensures.recalls snapshots recalls,
      rw (onward, fresh) refl,
    )

pub returns-in-Over-clause-tests : goal.returns-in-Over-clause-tests
returns-in-Over-clause-tests g c = λ snapshots recalls.
    let setting = setting_of c.args.code.now c.args.case.now c.args.input.now in
    let over = rw c.in-Over.is at c.in_ok-next.ensures.course in
    rw over (ap Complete (sym (c.conclude-in-Over.ensures setting)))
