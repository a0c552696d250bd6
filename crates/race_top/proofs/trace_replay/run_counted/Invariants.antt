use Rattle.std.proofs.Common.{◌≡◌, ◌+◌, ◌-◌}
use Rattle.machine_model.specs.Primary.{Primary, setting_of}
use Rattle.machine_model.specs.Run.{run_from}
use Rattle.machine_model.specs.System.{machine_of}
use Rattle.concrete_machine.specs.Course.{IsOf, course_of}
use Rattle.race_top.proofs.trace_replay.run_counted.Given as goal

abbrev pub invariant-loop : goal.invariant-loop
invariant-loop g l = record {
  count : l.most ≡ l.case.steps + 1;
  same : run_from (l.most - l.counter) (machine_of (setting_of l.code l.case l.input)) l.case.turns (course_of l.course)
      ≡ Primary l.code l.case l.input;
  of : IsOf l.code l.case l.course;
}
