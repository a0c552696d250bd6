use Rattle.std.proofs.Common.{◌+◌, ◌≤◌, refl, subst, sym, ◌∙◌, arith}
use Rattle.machine_model.specs.Hold.{Held, held_from}
use Rattle.machine_model.specs.Primary.{setting_of}
use Rattle.machine_model.specs.Run.Advance.{Onward, Over}
use Rattle.machine_model.specs.System.{machine_of}
use Rattle.machine_model.specs.declared.state.State.{State}
use Rattle.concrete_machine.specs.Course.{course_of}
use Rattle.race_top.specs.HoldTurn.{LeadsTo}
use Rattle.race_top.specs.OrderEnforcer.{Enforces}
use Rattle.race_top.proofs.Holds.{hold-turn}
use Rattle.race_top.proofs.order_enforcer.hold.hold_turn.Goals as goal

pub take-requires-clause-of : goal.take-requires-clause-of
take-requires-clause-of g c = c.in_ok-thread.ensures.of c.args.case.now c.requires.of

pub returns-in_ok-advance-in-Onward-clause-held : goal.returns-in_ok-advance-in-Onward-clause-held
returns-in_ok-advance-in-Onward-clause-held g c = λ most snapshots recalls.
    let setting = setting_of c.args.code.now c.args.case.now c.args.input.now in
    let system = machine_of setting in
    let listed = c.args.case.now.turns in
    let race = c.args.race.now in
    let first = c.args.first in
    let go = held_from most system listed race first in
    let chosen = rw c.in-Some.is at c.in_ok-thread.ensures.chosen c.args.case.now c.requires.of in
    let turn = hold-turn most system listed race first snapshots (course_of c.args.course) (course_of c.choose.new.self)
    c.in-Some.thread c.does_second-done.result (Onward (course_of c.in-Onward.next))
    (sym c.has_ended.ensures ∙ c.if-has_ended.false) chosen.0 chosen.1
    (c.does_second-done.ensures setting refl) (rw c.in-Onward.is at c.in_ok-next.ensures.course) in
    subst (λ (held : Held State). LeadsTo go c.in_ok-advance-in-Onward.advance held) (sym turn)
    (c.in_ok-advance-in-Onward.ensures.held setting go snapshots recalls)

pub returns-in_ok-advance-in-Onward-clause-within : goal.returns-in_ok-advance-in-Onward-clause-within
returns-in_ok-advance-in-Onward-clause-within g c =
    let falls : c.in-Onward.next.left ≤ c.choose.new.self.left = rw c.in-Onward.is at c.in_ok-next.ensures.falls in
    c.in_ok-advance-in-Onward.ensures.within c.args.code.now c.args.case.now c.args.course.left (c.args.past.turns + 1)
    (rw c.in-Onward.is at c.in_ok-next.ensures.of) (omega (arith, falls, c.in_ok-thread.ensures.left)) (omega arith)

pub returns-in-Over-clause-within : goal.returns-in-Over-clause-within
returns-in-Over-clause-within g c =
    c.end_hold.ensures.over c.args.code.now c.args.case.now c.args.course.left (c.args.past.turns + 1)

pub returns-in-Over-clause-held : goal.returns-in-Over-clause-held
returns-in-Over-clause-held g c = λ most snapshots recalls.
    let setting = setting_of c.args.code.now c.args.case.now c.args.input.now in
    let system = machine_of setting in
    let chosen = rw c.in-Some.is at c.in_ok-thread.ensures.chosen c.args.case.now c.requires.of in
    let turn = hold-turn most system c.args.case.now.turns c.args.race.now c.args.first snapshots (course_of c.args.course)
    (course_of c.choose.new.self) c.in-Some.thread c.does_second-done.result (Over (course_of c.in-Over.last) c.in-Over.outcome)
    (sym c.has_ended.ensures ∙ c.if-has_ended.false) chosen.0 chosen.1
    (c.does_second-done.ensures setting refl) (rw c.in-Over.is at c.in_ok-next.ensures.course) in
    subst (Enforces c.end_hold.result) (sym turn) (c.end_hold.ensures.held setting)
