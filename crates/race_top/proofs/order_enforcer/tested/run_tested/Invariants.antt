use Rattle.std.proofs.Common.{◌+◌, ◌-◌, ◌^◌, ◌<◌, List}
use Rattle.machine_model.specs.Primary.{setting_of}
use Rattle.machine_model.specs.Repeat.{Snapshot}
use Rattle.machine_model.specs.System.{machine_of}
use Rattle.machine_model.specs.TestedRun.{tested_on}
use Rattle.machine_model.specs.declared.state.State.{State}
use Rattle.concrete_machine.specs.Course.{IsOf, course_of}
use Rattle.race_top.specs.Past.{Recalls}
use Rattle.race_top.proofs.Tested.{Remains}
use Rattle.race_top.proofs.order_enforcer.tested.run_tested.Given as goal

abbrev pub invariant-loop : goal.invariant-loop
invariant-loop g l =
    let system = machine_of (setting_of l.code l.case l.input) in
    record {
      short : l.past.turns + l.most < 2 ^ 32 + l.counter;
      remains : (snapshots : List (Snapshot State)) → Recalls snapshots l.fn.past →
          Remains (l.most - l.counter) system l.case.turns l.past (course_of l.course)
          (tested_on system l.case.turns snapshots (course_of l.fn.course));
      of : IsOf l.code l.case l.course;
    }
