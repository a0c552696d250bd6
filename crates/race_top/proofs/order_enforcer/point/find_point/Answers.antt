use Rattle.std.proofs.Common.{◌≡◌, ◌+◌, ◌-◌, [], ◌∷◌, ◌++◌, Some, drop, take, length, refl, sym, ap, subst, ◌∙◌, arith}
use Rattle.std.proofs.lemmas.List.{nil_from_length}
use Rattle.machine_model.specs.Enabled.{enabled}
use Rattle.machine_model.specs.Job.{point_at, snapshots}
use Rattle.machine_model.specs.Moment.{Moment, access_at, from_turn, moments_from, onward_or_none}
use Rattle.machine_model.specs.Policy.{Choice, choose}
use Rattle.machine_model.specs.Primary.{setting_of}
use Rattle.machine_model.specs.Reach.{from_first, primary_moments}
use Rattle.machine_model.specs.Repeat.{snapshot_of}
use Rattle.machine_model.specs.Run.{Course, advanced, advanced_with}
use Rattle.machine_model.specs.System.{machine_of}
use Rattle.machine_model.specs.declared.state.State.{State}
use Rattle.concrete_machine.specs.Course.{course_of}
use Rattle.race_top.specs.OrderEnforcer.{FindsPoint}
use Rattle.race_top.proofs.Moments.{drop-next, moments-first_course, moments-chosen, moments-none, moments-onward, moments-over, moments-spent}
use Rattle.race_top.proofs.Points.{Recalls-next, none-chosen, point-here, point-none, point-of, thread-chosen}
use Rattle.race_top.proofs.order_enforcer.point.find_point.Goals as goal

pub loop-init : goal.loop-init
loop-init g c =
    let case = c.args.case.now in
    let setting = setting_of c.args.code.now case c.args.input.now in
    let system = machine_of setting in
    let start = c.in_ok-course.ensures.course in
    record {
      count = omega (arith, c.from-most.ensures);
      rest = sym (moments-first_course (c.from-most.result + 1 - 0) system case.turns case.steps (course_of c.in_ok-course.course)
          (omega (arith, c.from-most.ensures)) start);
      from = refl;
      past = c.in_ok-past.ensures;
      turns = omega (arith, c.in_ok-past.ensures.turns);
      of = c.in_ok-course.ensures.of;
      left = omega (arith, ap (λ course. course.left) start);
    }

pub returns-in_default-clause-point : goal.returns-in_default-clause-point
returns-in_default-clause-point g c =
    let case = c.args.case.now in
    let setting = setting_of c.args.code.now case c.args.input.now in
    let system = machine_of setting in
    let none = none-chosen _ (rw c.in_default.is at (c.in_ok-thread.ensures.thread case c.loop.invariant.of)) in
    let ended = moments-none (c.from-most.result + 1 - c.loop.counter) system case.turns (course_of c.loop.course) none in
    point-none c.args.code.now case c.args.race.now c.args.input.now c.loop.number _
    (c.loop.invariant.rest ∙ ended) c.loop.invariant.from

pub returns-in-None-clause-point : goal.returns-in-None-clause-point
returns-in-None-clause-point g c =
    let code = c.args.code.now in
    let case = c.args.case.now in
    let race = c.args.race.now in
    let input = c.args.input.now in
    let setting = setting_of code case input in
    let system = machine_of setting in
    let moments = primary_moments code case input in
    let left = c.from-most.result + 1 - c.loop.counter in
    let rest = c.from-most.result + 1 - (c.loop.counter + 1) in
    let before = course_of c.loop.course in
    let chosen = thread-chosen (choose case.turns before.policy (enabled setting.code before.state)) c.in-Some.thread
    (rw c.in-Some.is at (c.in_ok-thread.ensures.thread case c.loop.invariant.of)) in
    let choice : Choice = record { thread = c.in-Some.thread; next = chosen.0 } in
    let moment : Moment State = record { before = before; thread = c.in-Some.thread } in
    let later = onward_or_none (moments_from rest system case.turns) (advanced_with system before (Some choice)) in
    let here : drop c.loop.counter moments ≡ moment ∷ later =
    c.loop.invariant.rest
    ∙ moments-chosen left rest system case.turns before choice (omega (arith, c.loop-test.true)) chosen.1 in
    let first = rw c.in-None.is at (c.number_after.ensures moment later refl) in
    let from : moment ∷ later ≡ from_first race moments =
    sym first ∙ ap (from_turn race.t1 c.loop.number) (sym here) ∙ c.loop.invariant.from in
    let past = snapshots (take c.loop.counter moments) ++ snapshot_of before ∷ [] in
    let finds : Course State → Type 0 = λ course.
    let one : Moment State = record { before = course; thread = c.in-Some.thread } in
    FindsPoint c.point_of.result (point_at past one (access_at system one)) in
    subst (FindsPoint c.point_of.result) (sym (point-here code case race input c.loop.counter moment later here from))
    (subst finds c.in_ok-thread.ensures.same
    (c.point_of.ensures.point setting past refl c.loop.invariant.past))

pub returns-in-None-clause-of : goal.returns-in-None-clause-of
returns-in-None-clause-of g c =
    point-of c.args.code.now c.args.case.now c.point_of.result c.peek.new.self
    (c.in_ok-thread.ensures.of c.args.case.now c.loop.invariant.of) c.point_of.ensures.course

pub advance-requires : goal.advance-requires
advance-requires g c = c.in_ok-thread.ensures.of c.args.case.now c.loop.invariant.of

pub returns-in-Over-clause-point : goal.returns-in-Over-clause-point
returns-in-Over-clause-point g c =
    let code = c.args.code.now in
    let case = c.args.case.now in
    let race = c.args.race.now in
    let input = c.args.input.now in
    let setting = setting_of code case input in
    let system = machine_of setting in
    let moments = primary_moments code case input in
    let left = c.from-most.result + 1 - c.loop.counter in
    let rest = c.from-most.result + 1 - (c.loop.counter + 1) in
    let before = course_of c.loop.course in
    let chosen = thread-chosen (choose case.turns before.policy (enabled setting.code before.state)) c.in-Some.thread
    (rw c.in-Some.is at (c.in_ok-thread.ensures.thread case c.loop.invariant.of)) in
    let choice : Choice = record { thread = c.in-Some.thread; next = chosen.0 } in
    let moment : Moment State = record { before = before; thread = c.in-Some.thread } in
    let later = onward_or_none (moments_from rest system case.turns) (advanced_with system before (Some choice)) in
    let here : drop c.loop.counter moments ≡ moment ∷ later =
    c.loop.invariant.rest
    ∙ moments-chosen left rest system case.turns before choice (omega (arith, c.loop-test.true)) chosen.1 in
    let few = moments-over left system case.turns before (course_of c.in-Over.field-0) c.in-Over.field-1
    (ap (advanced system case.turns) (sym c.in_ok-thread.ensures.same) ∙ rw c.in-Over.is at c.in_ok-next.ensures.course) in
    let none : later ≡ [] = nil_from_length later (omega (arith, few, ap length (sym c.loop.invariant.rest ∙ here))) in
    let past = rw c.in-Some-number_after.is at (c.number_after.ensures moment later refl) in
    point-none code case race input c.in-Some-number_after.rest later none
    (sym past ∙ ap (from_turn race.t1 c.loop.number) (sym here) ∙ c.loop.invariant.from)

pub loop-preserved : goal.loop-preserved
loop-preserved g c =
    let code = c.args.code.now in
    let case = c.args.case.now in
    let race = c.args.race.now in
    let input = c.args.input.now in
    let setting = setting_of code case input in
    let system = machine_of setting in
    let moments = primary_moments code case input in
    let left = c.from-most.result + 1 - c.loop.counter in
    let rest = c.from-most.result + 1 - (c.loop.counter + 1) in
    let before = course_of c.loop.course in
    let moment : Moment State = record { before = before; thread = c.in-Some.thread } in
    let next = course_of c.in-Onward.next in
    let later = moments_from rest system case.turns next in
    let goes = moments-onward left rest system case.turns before next (omega (arith, c.loop-test.true))
    (ap (advanced system case.turns) (sym c.in_ok-thread.ensures.same) ∙ rw c.in-Onward.is at c.in_ok-next.ensures.course) in
    let same : goes.choice.thread ≡ c.in-Some.thread =
    let told = rw (c.in-Some.is, goes.is) at (c.in_ok-thread.ensures.thread case c.loop.invariant.of) in cc in
    let here : drop c.loop.counter moments ≡ moment ∷ later =
    c.loop.invariant.rest ∙ goes.moments ∙ ap (λ thread. record { before = before; thread = thread } ∷ later) same in
    let on : drop (c.loop.counter + 1) moments ≡ later = drop-next moments c.loop.counter moment later here in
    let past = rw c.in-Some-number_after.is at (c.number_after.ensures moment later refl) in
    let of = rw c.in-Onward.is at c.in_ok-next.ensures.of in
    record {
      count = c.loop.invariant.count;
      rest = on;
      from = ap (from_turn race.t1 c.in-Some-number_after.rest) on
          ∙ sym past ∙ ap (from_turn race.t1 c.loop.number) (sym here) ∙ c.loop.invariant.from;
      past = Recalls-next moments c.loop.counter moment later (snapshot_of next) c.note.new.self here
          (c.in_ok-note.ensures.recalls (snapshots (take c.loop.counter moments) ++ snapshot_of before ∷ []) c.loop.invariant.past);
      turns = omega (arith, c.in_ok-note.ensures.turns, c.loop.invariant.turns);
      of = of;
      left = omega (arith, rw c.in-Onward.is at c.in_ok-next.ensures.falls, ap (λ course. course.left) c.in_ok-thread.ensures.same, c.loop.invariant.left);
    }

pub returns-clause-point : goal.returns-clause-point
returns-clause-point g c =
    let case = c.args.case.now in
    let setting = setting_of c.args.code.now case c.args.input.now in
    let system = machine_of setting in
    let ended = moments-spent (c.from-most.result + 1 - c.loop.counter) system case.turns (course_of c.loop.course) (omega arith) in
    point-none c.args.code.now case c.args.race.now c.args.input.now c.loop.number _
    (c.loop.invariant.rest ∙ ended) c.loop.invariant.from
