use Rattle.std.proofs.Common.{◌+◌, ◌-◌, ◌==◌, count_by, drop, length, take, refl, sym, ap, ◌∙◌, arith}
use Rattle.machine_model.specs.Primary.{setting_of}
use Rattle.machine_model.specs.Reach.{primary_moments}
use Rattle.machine_model.specs.System.{machine_of}
use Rattle.concrete_machine.specs.Course.{course_of}
use Rattle.race_top.specs.Seen.{moment_due, recorded_from, threads_of}
use Rattle.race_top.proofs.Moments.{moments-first_course, slice_get-here}
use Rattle.race_top.proofs.SeenPairs.{few-threads, first-count, from-start, second-none, second-of, second-past, slice_get-empty}
use Rattle.race_top.proofs.trace_replay.seen.see_pair.Goals as goal

pub returns-in_default : goal.returns-in_default
returns-in_default g c =
    let code = c.args.code.now in
    let case = c.args.case.now in
    let moments = primary_moments code case case.input in
    let begun = moments-first_course (c.from-most.result + 1) (machine_of (setting_of code case case.input)) case.turns case.steps
    (course_of c.in_ok-start.start) (omega (arith, c.from-most.ensures)) c.in_ok-start.ensures.course in
    let left = ap (drop (c.args.first - 1)) (sym begun) ∙ rw c.in_default.is at c.in_ok-due.ensures.left in
    second-past moments c.args.first c.args.second (omega arith) (omega arith) (rw left (omega arith))

pub overflow_cast-count : goal.overflow_cast-count
overflow_cast-count g c =
    let taken = rw c.in-Some.is at c.in_ok-due.ensures.taken in
    let turns = ap (λ course. course.turns) c.in_ok-start.ensures.course in
    let few = few-threads c.in_ok-start.start.turns.items c.in-Some.due.course.turns.items (c.args.first - 1) _ turns taken in
    omega (arith, few, c.count_turns.ensures.within, ap length c.deref.ensures.value, c.ranges.first.fits)

pub overflow_add-count : goal.overflow_add-count
overflow_add-count g c =
    let taken = rw c.in-Some.is at c.in_ok-due.ensures.taken in
    let turns = ap (λ course. course.turns) c.in_ok-start.ensures.course in
    let few = few-threads c.in_ok-start.start.turns.items c.in-Some.due.course.turns.items (c.args.first - 1) _ turns taken in
    omega (arith, few, c.count_turns.ensures.within, ap length c.deref.ensures.value, c.ranges.first.fits)

pub returns-in_default-2 : goal.returns-in_default-2
returns-in_default-2 g c =
    let code = c.args.code.now in
    let case = c.args.case.now in
    let most = c.from-most.result + 1 in
    let begun = moments-first_course most (machine_of (setting_of code case case.input)) case.turns case.steps
    (course_of c.in_ok-start.start) (omega (arith, c.from-most.ensures)) c.in_ok-start.ensures.course in
    let due = rw c.in-Some.is at c.in_ok-due.ensures.left in
    second-none code case (primary_moments code case case.input) most (most - c.args.first) c.args.first c.args.second c.in-Some.due
    (omega arith) (omega arith) refl
    (due.0, ap (drop (c.args.first - 1)) (sym begun) ∙ due.1)
    (rw c.in_default-2.is at c.in_ok-next.ensures.left (most - c.args.first))

pub returns-in_default-3 : goal.returns-in_default-3
returns-in_default-3 g c =
    let code = c.args.code.now in
    let case = c.args.case.now in
    let most = c.from-most.result + 1 in
    let begun = moments-first_course most (machine_of (setting_of code case case.input)) case.turns case.steps
    (course_of c.in_ok-start.start) (omega (arith, c.from-most.ensures)) c.in_ok-start.ensures.course in
    let due = rw c.in-Some.is at c.in_ok-due.ensures.left in
    let rest = most - c.from.result in
    second-of code case (primary_moments code case case.input) most rest c.args.first c.args.second c.in-Some.due
    c.in-Some-2.next (omega arith) (omega arith) (omega (arith, c.from.ensures))
    (due.0, ap (drop (c.args.first - 1)) (sym begun) ∙ due.1)
    (rw c.in-Some-2.is at c.in_ok-next.ensures.left rest)
    ∙ slice_get-empty (recorded_from code case rest (course_of c.in-Some-2.next)) (c.args.second - c.args.first - 1)
    (rw c.in_default-3.is at c.in_ok-last.ensures.left)

pub returns : goal.returns
returns g c =
    let code = c.args.code.now in
    let case = c.args.case.now in
    let setting = setting_of code case case.input in
    let moments = primary_moments code case case.input in
    let most = c.from-most.result + 1 in
    let begun = moments-first_course most (machine_of setting) case.turns case.steps
    (course_of c.in_ok-start.start) (omega (arith, c.from-most.ensures)) c.in_ok-start.ensures.course in
    let due = rw c.in-Some.is at c.in_ok-due.ensures.left in
    let taken = rw c.in-Some.is at c.in_ok-due.ensures.taken in
    let turns = ap (λ course. course.turns) c.in_ok-start.ensures.course in
    let first = ap (drop (c.args.first - 1)) (sym begun) ∙ due.1 in
    let rest = most - c.from.result in
    let last = rw c.in-Some-3.is at c.in_ok-last.ensures.left in
    record {
      one = moment_due due.0 c.in-Some.due;
      other = moment_due last.0 c.in-Some-3.last;
      is_one = slice_get-here moments (c.args.first - 1) _ _ first;
      is_other = second-of code case moments most rest c.args.first c.args.second c.in-Some.due
          c.in-Some-2.next (omega arith) (omega arith) (omega (arith, c.from.ensures))
          (due.0, first) (rw c.in-Some-2.is at c.in_ok-next.ensures.left rest)
          ∙ slice_get-here (recorded_from code case rest (course_of c.in-Some-2.next)) (c.args.second - c.args.first - 1) _ _ last.1;
      sees_one = c.see-one.ensures setting due.0 refl;
      sees_other = c.see.ensures setting last.0 refl;
      count = first-count code case moments (most - (c.args.first - 1 + 1)) c.args.first c.in-Some.due due.0 c.count_turns.result
          (omega arith) first
          (from-start _ _ _ turns taken ∙ ap (λ whole. threads_of (take (c.args.first - 1) whole)) begun)
          (c.count_turns.ensures.count ∙ ap (count_by (λ turn. turn == c.in-Some.due.thread)) c.deref.ensures.value);
    }
