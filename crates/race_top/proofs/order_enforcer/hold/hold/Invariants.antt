use Rattle.std.proofs.Common.{◌≡◌, ◌+◌, ◌-◌, ◌≤◌, List}
use Rattle.machine_model.specs.Hold.{held_from}
use Rattle.machine_model.specs.Primary.{setting_of}
use Rattle.machine_model.specs.Repeat.{Snapshot}
use Rattle.machine_model.specs.System.{machine_of}
use Rattle.machine_model.specs.declared.state.State.{State}
use Rattle.concrete_machine.specs.Course.{IsOf, course_of}
use Rattle.race_top.specs.declared.order_enforcer.hold.HoldAdvance.TheVariants.{Onward}
use Rattle.race_top.specs.HoldTurn.{LeadsTo}
use Rattle.race_top.specs.Past.{Recalls}
use Rattle.race_top.proofs.order_enforcer.hold.hold.Given as goal

abbrev pub invariant-loop : goal.invariant-loop
invariant-loop g l = record {
  count : l.most ≡ l.fn.course.left + 1;
  turned : l.past.turns ≤ l.fn.past.turns + l.counter;
  left : l.course.left ≤ l.fn.course.left;
  of : IsOf l.code l.case l.course;
  same : (snapshots : List (Snapshot State)) → Recalls snapshots l.fn.past →
      LeadsTo (held_from (l.most - l.counter) (machine_of (setting_of l.code l.case l.input)) l.case.turns l.race l.first)
      (Onward l.course l.past)
      (held_from (l.fn.course.left + 1) (machine_of (setting_of l.code l.case l.input)) l.case.turns l.race l.first
      snapshots (course_of l.fn.course));
}
