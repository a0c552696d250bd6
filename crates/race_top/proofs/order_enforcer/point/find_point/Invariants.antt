use Rattle.std.proofs.Common.{◌≡◌, ◌+◌, ◌-◌, ◌≤◌, [], ◌∷◌, ◌++◌, drop, take}
use Rattle.machine_model.specs.Job.{snapshots}
use Rattle.machine_model.specs.Moment.{from_turn, moments_from}
use Rattle.machine_model.specs.Primary.{setting_of}
use Rattle.machine_model.specs.Reach.{from_first, primary_moments}
use Rattle.machine_model.specs.Repeat.{snapshot_of}
use Rattle.machine_model.specs.System.{machine_of}
use Rattle.concrete_machine.specs.Course.{IsOf, course_of}
use Rattle.race_top.specs.Past.{Recalls}
use Rattle.race_top.proofs.order_enforcer.point.find_point.Given as goal

abbrev pub invariant-loop : goal.invariant-loop
invariant-loop g l =
    let moments = primary_moments l.code l.case l.input in
    record {
      count : l.most ≡ l.case.steps + 1;
      rest : drop l.counter moments
          ≡ moments_from (l.most - l.counter) (machine_of (setting_of l.code l.case l.input)) l.case.turns (course_of l.course);
      from : from_turn l.race.t1 l.number (drop l.counter moments) ≡ from_first l.race moments;
      past : Recalls (snapshots (take l.counter moments) ++ snapshot_of (course_of l.course) ∷ []) l.past;
      turns : l.past.turns ≡ l.counter;
      of : IsOf l.code l.case l.course;
      left : l.course.left ≤ l.case.steps;
    }
