use Rattle.std.proofs.Common.{◌≡◌, ◌-◌, ◌++◌, drop, take}
use Rattle.concrete_machine.specs.Course.{IsOf, course_of}
use Rattle.race_top.specs.Seen.{recorded_from, threads_of}
use Rattle.race_top.proofs.trace_replay.seen.go_on.Given as goal

abbrev pub invariant-loop : goal.invariant-loop
invariant-loop g l =
    let moments = recorded_from l.code l.case l.most (course_of l.fn.course) in
    record {
      left : drop l.counter moments ≡ recorded_from l.code l.case (l.most - l.counter) (course_of l.course);
      taken : l.course.turns.items ≡ l.fn.course.turns.items ++ threads_of (take l.counter moments);
      of : IsOf l.code l.case l.course;
    }
