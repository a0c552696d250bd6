-- After a hold that is done the held thread is chosen, with its access.
use Rattle.std.proofs.Common.{◌≡◌, ℕ, ◌+◌, List, Option, Some, None, refl, arith}
use Rattle.machine_model.specs.declared.access.Access.{Access}
use Rattle.machine_model.specs.Job.{held_course}
use Rattle.machine_laws.specs.OtherOrder.{HoldTurnsRound, OrderIsTurnedRound}
use Rattle.machine_model.specs.Policy.{Choice, Policy, choose, releasing}
use Rattle.machine_model.specs.Primary.{setting_of}
use Rattle.machine_model.specs.Run.{Course}
use Rattle.machine_model.specs.System.{System, machine_of}
use Rattle.machine_model.specs.SystemLaws.{IsSystem, MayDo}
use Rattle.machine_laws.proofs.HoldLaws.{ends-have_causes}
use Rattle.machine_laws.proofs.JobReplays.{hold-resumes, point_of-is}
use Rattle.machine_laws.proofs.Machines.{machine-is_system}
use Rattle.machine_model.proofs.Policies.{choice-released, choice-unless_none}

-- a thread that can be chosen is, when it is released
released-first : {S : Type 0} (system : System S) (listed : List ℕ) (held : ℕ) (access : Access) (course : Course S) →
    MayDo system course.state held access →
    (choice : Choice) × (choose listed (releasing held course.policy) (system.enabled course.state) ≡ Some choice)
    × (choice.thread ≡ held)
released-first system listed held access course may = go (choose listed policy threads) refl
  where
    policy : Policy
    policy = releasing held course.policy

    threads : List ℕ
    threads = system.enabled course.state

    go : (found : Option Choice) → choose listed policy threads ≡ found →
        (choice : Choice) × (choose listed policy threads ≡ Some choice) × (choice.thread ≡ held)
    go None none =
        absurd (choice-unless_none listed policy threads held none may.may_run refl)
    go (Some choice) found = (choice, found, (choice-released listed policy threads choice held refl found).0)

pub hold-turns_round : {S : Type 0} (system : System S) (facts : IsSystem system) → HoldTurnsRound system
hold-turns_round system facts listed race point snapshots after may done =
    let most = point.course.left + 1 in
    let course = held_course race.t1 point.course in
    let causes = ends-have_causes system most listed race point.first point.past course in
    let resumes = hold-resumes most system facts listed race point.first point.past course (omega arith) refl in
    let kept = rw done at resumes in
    let still = kept.1 may in
    let first = released-first system listed race.t1 point.first after still in
    record {
      second = rw done at causes;
      choice = first.0;
      chosen = first.1;
      is_first = first.2;
      waits = still.waits;
    }

pub order-is_turned_round : OrderIsTurnedRound
order-is_turned_round code case race input point snapshots after is =
    let setting = setting_of code case input in
    hold-turns_round (machine_of setting) (machine-is_system setting) case.turns race point snapshots after
    (point_of-is code case race input point is).may_do
