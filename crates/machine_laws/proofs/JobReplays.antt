-- The turns of a job's run, given back as the list, are taken again: those up to the hold, those of the hold, and
-- those after it.
use Rattle.std.proofs.Common.{◌≡◌, ℕ, zero, suc, ◌+◌, ◌-◌, ◌<◌, Bool, true, false, cond, eqb, List, ◌∷◌, [], ◌++◌, length, take, Option, Some, None, All, refl, sym, ap, ◌∙◌, arith}
use Rattle.std.specs.Prelude.{option_map}
use Rattle.std.proofs.lemmas.Bool.{eqb-true}
use Rattle.std.proofs.lemmas.List.Elements.{All-cons, All-head, All-nil, All-tail}
use Rattle.ir_types.specs.declared.input.Input.{Input}
use Rattle.ir_types.specs.declared.«module».Module.{Module}
use Rattle.machine_model.specs.declared.access.Access.{Access}
use Rattle.run_types.specs.declared.case.Case.{Case}
use Rattle.machine_model.specs.declared.mode.Mode.TheVariants.{Hold}
use Rattle.run_types.specs.declared.race.Race.{Race}
use Rattle.run_types.specs.declared.run.Outcome.{Outcome}
use Rattle.run_types.specs.declared.run.Outcome.TheVariants as outcomes
use Rattle.run_types.specs.declared.run.Run.{Run}
use Rattle.run_types.specs.declared.run.TurnEnd.{TurnEnd}
use Rattle.run_types.specs.declared.run.TurnEnd.TheVariants as ends
use Rattle.machine_model.specs.declared.state.State.{State}
use Rattle.machine_model.specs.Begun.{released_course}
use Rattle.machine_model.specs.Hold.{Held, held_from, held_over}
use Rattle.machine_model.specs.Hold.Held.{Reordered, NotEnforced, RunOver}
use Rattle.machine_model.specs.Job.{hold_of, HoldPoint, held_course, hold_at, point_of, point_at, point_in, snapshots}
use Rattle.machine_model.specs.Job.Alternate.{Ran}
use Rattle.machine_laws.specs.JobLaws.{IsRepeat}
use Rattle.machine_laws.specs.JobReplays.{AlternateReplays, PrimaryJobReplays}
use Rattle.machine_model.specs.Moment.{Moment, access_at, from_turn, moments_from, moments_of, moments_with, onward_or_none}
use Rattle.machine_model.specs.Policy.{Choice, choose, from_front}
use Rattle.machine_model.specs.Primary.{setting_of}
use Rattle.machine_model.specs.Reach.{Reaches, from_first, primary_moments}
use Rattle.machine_model.specs.Repeat.{Snapshot}
use Rattle.machine_model.specs.Run.{Course, advanced_by, advanced_with, first_course, run_from, run_of, concluded}
use Rattle.machine_model.specs.Run.Advance.{Onward, Over}
use Rattle.machine_model.specs.System.{System, machine_of}
use Rattle.machine_model.specs.SystemLaws.{IsSystem, MayDo}
use Rattle.machine_model.specs.TestedRun.{tested_on}
use Rattle.machine_laws.specs.WholeAlternate.{alternate_after}
use Rattle.machine_laws.proofs.Alternates.{alternate-is_whole}
use Rattle.machine_model.proofs.Cases.{by_test}
use Rattle.machine_laws.proofs.HoldCases.{IsTurn, LeadsTo, each-hold}
use Rattle.machine_laws.proofs.HoldLaws.{other-thread, still-held}
use Rattle.machine_laws.proofs.Leading.{Begins-on, IsEnabled, Leads, Returns, end_of, leads-itself, leads-on, leads-turn, listed-next, next_course, returns-turn, turn-less}
use Rattle.machine_model.proofs.Policies.{choice-enabled, choice-is_last, choice-listed, choice-unless_none}
use Rattle.machine_laws.proofs.Machines.{machine-is_system}
use Rattle.machine_laws.proofs.Released.{moment-may_do}
use Rattle.machine_laws.proofs.Replays.{Begins, Begins-itself, run_from-begins, run_of-turns}
use Rattle.machine_laws.proofs.RunReturns.{run-returns}
use Rattle.machine_laws.proofs.Unrepeated.{tested_from-agrees, unrepeated-is_run}

-- turns lead to each moment of a run, and its thread is enabled there
record Comes {S : Type 0} (system : System S) (start : Course S) (moment : Moment S) : Type 0 where
  leads : Leads system start moment.before
  among : IsEnabled system moment.before moment.thread

moments-come : {S : Type 0} (most : ℕ) (system : System S) (facts : IsSystem system) (listed : List ℕ)
    (start course : Course S) → Leads system start course →
    All (Comes system start) (moments_from most system listed course)
unfolding moments_from
moments-come zero system facts listed start course leads = All-nil (Comes system start)
moments-come {S} (suc most) system facts listed start course leads =
    go (moments-come most system facts listed start) (choose listed course.policy (system.enabled course.state)) refl
  where
    Rest : Type 0
    Rest = (next : Course S) → Leads system start next → All (Comes system start) (moments_from most system listed next)

    on : Course S → List (Moment S)
    on = moments_from most system listed

    later : Rest → (choice : Choice) → IsEnabled system course choice.thread → (end : TurnEnd) →
        end_of system course choice ≡ end →
        All (Comes system start) (onward_or_none on (advanced_by choice.thread (next_course system course choice) end))
    later rest choice among ends.Going is =
        let next = next_course system course choice in
        rest next
        (leads-on system start course next leads (leads-turn system facts course next choice among (rw is refl) refl))
    later rest choice among (ends.Exit status) is = All-nil (Comes system start)
    later rest choice among (ends.Trap trap site) is = All-nil (Comes system start)
    later rest choice among ends.Spent is = All-nil (Comes system start)

    go : Rest → (found : Option Choice) → choose listed course.policy (system.enabled course.state) ≡ found →
        All (Comes system start) (moments_with on system course found)
    go rest None found = All-nil (Comes system start)
    go rest (Some choice) found =
        let among = (choice-enabled listed course.policy (system.enabled course.state) choice found).0 in
        All-cons (Comes system start) (record { before = course; thread = choice.thread })
        (onward_or_none on (advanced_with system course (Some choice)))
        (record { leads = leads; among = among }) (later rest choice among (end_of system course choice) refl)

-- what holds of the first of some moments, which is a turn of the thread
abbrev HeadIs : {S : Type 0} → (Moment S → Type 0) → ℕ → List (Moment S) → Type 0
HeadIs P thread [] = Unit {0}
HeadIs P thread (moment ∷ later) = P moment × (moment.thread ≡ thread)

from_turn-head : {S : Type 0} (P : Moment S → Type 0) (thread number : ℕ) (moments : List (Moment S)) → All P moments →
    HeadIs P thread (from_turn thread number moments)
from_turn-head P thread number [] all = tt
from_turn-head P thread number (moment ∷ later) all =
    let rest = All-tail P moment later all in
    by_test (HeadIs P thread) (eqb moment.thread thread) _ _
    (λ own. by_test (HeadIs P thread) (eqb number 1) _ _
    (λ here. (All-head P moment later all, eqb-true moment.thread thread own))
    (λ other. from_turn-head P thread (number - 1) later rest))
    (λ other. from_turn-head P thread number later rest)

-- turns lead to the hold point, and there the first thread can be chosen, whatever the others do
pub record IsPoint {S : Type 0} (system : System S) (start : Course S) (race : Race) (point : HoldPoint S) : Type 0 where
  pub leads : Leads system start point.course
  pub may_do : MayDo system point.course.state race.t1 point.first

point-in : {S : Type 0} (system : System S) (start : Course S) (race : Race) (point : HoldPoint S)
    (moments found : List (Moment S)) →
    HeadIs (Comes system start) race.t1 found → point_in system moments found ≡ Some point →
    IsPoint system start race point
point-in system start race point moments [] head is = absurd (let h : ⊥ = cc in h)
point-in {S} system start race point moments (moment ∷ later) head is = go (access_at system moment) refl is
  where
    past : List (Snapshot S)
    past = snapshots (take (length moments - length later) moments)

    go : (access : Option Access) → access_at system moment ≡ access → point_at past moment access ≡ Some point →
        IsPoint system start race point
    go None accesses is = absurd (let h : ⊥ = cc in h)
    go (Some access) accesses is =
        let same : record { past = past; course = moment.before; first = access } ≡ point = cc in
        let here : point.course ≡ moment.before = ap (λ (one : HoldPoint S). one.course) (sym same) in
        let first : point.first ≡ access = ap (λ (one : HoldPoint S). one.first) (sym same) in
        record {
          leads = rw here head.0.leads;
          may_do = rw (here, first, ← head.1) (moment-may_do system moment access head.0.among accesses);
        }

-- the held thread is left as it is
abbrev pub Keeps : {S : Type 0} → System S → ℕ → Access → Course S → Course S → Type 0
Keeps system held first course next = MayDo system course.state held first → MayDo system next.state held first

-- what a hold leads to from a course on
abbrev pub Resumes : {S : Type 0} → System S → ℕ → Access → Course S → Held S → Type 0
Resumes system held first course (Reordered past after) = Leads system course after × Keeps system held first course after
Resumes system held first course (NotEnforced reason after) = Unit {0}
Resumes system held first course (RunOver run) = Begins course.turns run.turns × Returns system run.turns course run

among : {S : Type 0} (system : System S) (listed : List ℕ) (course next : Course S) (choice : Choice) →
    IsTurn system listed course choice next → IsEnabled system course choice.thread
among system listed course next choice is =
    (choice-enabled listed course.policy (system.enabled course.state) choice is.chosen).0

-- a turn with which the run is over
last-turn : {S : Type 0} (system : System S) (facts : IsSystem system) (listed : List ℕ) (course next : Course S)
    (choice : Choice) (outcome : Outcome) →
    IsTurn system listed course choice next → LeadsTo system course choice (Over next outcome) →
    Begins course.turns next.turns × Returns system next.turns course (concluded system next outcome)
last-turn system facts listed course next choice outcome is leads = (
  (choice.thread ∷ [], is.turns),
  returns-turn system facts next.turns (concluded system next outcome) course choice (among system listed course next choice is)
      (listed-next course.turns choice.thread next.turns (rw is.turns (Begins-itself (course.turns ++ choice.thread ∷ []))))
      (rw leads refl),
)

over-resumes : {S : Type 0} (system : System S) (facts : IsSystem system) (listed : List ℕ) (held : ℕ)
    (first : Access) (course next : Course S) (choice : Choice) (outcome : Outcome) →
    IsTurn system listed course choice next → LeadsTo system course choice (Over next outcome) →
    Resumes system held first course (held_over system next outcome)
over-resumes system facts listed held first course next choice (outcomes.Exit status) is leads = tt
over-resumes system facts listed held first course next choice (outcomes.Trap trap thread site) is leads =
    last-turn system facts listed course next choice (outcomes.Trap trap thread site) is leads
over-resumes system facts listed held first course next choice outcomes.Deadlock is leads =
    last-turn system facts listed course next choice outcomes.Deadlock is leads
over-resumes system facts listed held first course next choice (outcomes.Repeats turn earlier) is leads =
    last-turn system facts listed course next choice (outcomes.Repeats turn earlier) is leads
over-resumes system facts listed held first course next choice outcomes.Spent is leads =
    last-turn system facts listed course next choice outcomes.Spent is leads

-- a turn with which the hold goes on
next-turn : {S : Type 0} (system : System S) (facts : IsSystem system) (listed : List ℕ) (held : ℕ)
    (first : Access) (course next : Course S) (choice : Choice) →
    IsTurn system listed course choice next → LeadsTo system course choice (Onward next) →
    course.policy.mode ≡ Hold held → Leads system course next × Keeps system held first course next
next-turn system facts listed held first course next choice is leads mode = (
  leads-turn system facts course next choice (among system listed course next choice is) leads is.turns,
  λ may. rw is.next_is (facts.keeps course.state held choice.thread course.left first
      (λ same. other-thread system listed held course next choice is mode (sym same)) may),
)

onward-resumes : {S : Type 0} (system : System S) (held : ℕ) (access : Access) (course next : Course S)
    (ending : Held S) →
    Leads system course next × Keeps system held access course next → Resumes system held access next ending →
    Resumes system held access course ending
onward-resumes system held access course next (Reordered past after) first rest = (
  leads-on system course next after first.0 rest.0,
  λ may. rest.1 (first.1 may),
)
onward-resumes system held access course next (NotEnforced reason after) first rest = tt
onward-resumes system held access course next (RunOver run) first rest =
    (Begins-on course.turns next.turns run.turns first.0.begins rest.0, first.0.back run.turns run rest.0 rest.1)

pub hold-resumes : {S : Type 0} (most : ℕ) (system : System S) (facts : IsSystem system) (listed : List ℕ)
    (race : Race) (first : Access) (past : List (Snapshot S))
    (course : Course S) → course.left < most → course.policy.mode ≡ Hold race.t1 →
    Resumes system race.t1 first course (held_from most system listed race first past course)
hold-resumes most system facts listed race first past course =
    each-hold system listed race first
    (λ most past course ending. course.left < most → course.policy.mode ≡ Hold race.t1 → Resumes system race.t1 first course ending)
    (record {
      spent = λ past course less mode. absurd (omega arith);
      diverged = λ most past course ended less mode. tt;
      stuck = λ most past course none less mode. tt;
      over = λ most past course next choice outcome is leads less mode.
          over-resumes system facts listed race.t1 first course next choice outcome is leads;
      done = λ most past course next choice is leads does less mode.
          next-turn system facts listed race.t1 first course next choice is leads mode;
      repeated = λ most past course next choice is leads again less mode. tt;
      onward = λ most past course next choice ending is leads rest less mode.
          onward-resumes system race.t1 first course next ending
          (next-turn system facts listed race.t1 first course next choice is leads mode)
          (rest (turn-less system facts course next choice most leads less)
          (still-held system listed race.t1 course next choice is mode));
    }) most past course

-- after the hold the first thread can be chosen, so the run is taken again
released-returns : {S : Type 0} (system : System S) (facts : IsSystem system) (listed again : List ℕ) (race : Race)
    (first : Access) (course : Course S) (run : Run) →
    MayDo system course.state race.t1 first →
    run_from (course.left + 1) system listed (released_course race.t1 course) ≡ run → again ≡ run.turns →
    Begins course.turns again × Returns system again course run
released-returns system facts listed again race first course run may is same =
    let released = released_course race.t1 course in
    let begins = run_from-begins (course.left + 1) system listed released in
    let returns = run-returns (course.left + 1) system facts listed again released (omega arith) tt
    (λ none thread other. choice-unless_none listed released.policy (system.enabled course.state) race.t1 none may.may_run refl)
    (rw is same) in
    (rw (same, ← is) begins, rw (← is) returns)

ending-returns : {S : Type 0} (system : System S) (facts : IsSystem system) (listed : List ℕ) (race : Race)
    (first : Access) (course : Course S) (ending : Held S)
    (run : Run) → MayDo system course.state race.t1 first → Resumes system race.t1 first course ending →
    alternate_after system listed race (Some ending) ≡ Ran run → ¬ IsRepeat run.outcome →
    Begins course.turns run.turns × Returns system run.turns course run
ending-returns system facts listed race first course (Reordered past after) run may resumes is never =
    let ran : tested_on system listed past (released_course race.t1 after) ≡ run = cc in
    let untested : run_from (after.left + 1) system listed (released_course race.t1 after) ≡ run =
    sym (tested_from-agrees (after.left + 1) system listed past (released_course race.t1 after) (rw ran never)) ∙ ran in
    let rest = released-returns system facts listed run.turns race first after run
    (resumes.1 may) untested refl in (
      Begins-on course.turns after.turns run.turns resumes.0.begins rest.0,
      resumes.0.back run.turns run rest.0 rest.1,
    )
ending-returns system facts listed race first course (NotEnforced reason after) run may resumes is never = absurd (let h : ⊥ = cc in h)
ending-returns system facts listed race first course (RunOver other) run may resumes is never =
    let same : other ≡ run = cc in rw (← same) resumes

-- from the start on
point-returns : {S : Type 0} (system : System S) (facts : IsSystem system) (listed : List ℕ) (race : Race)
    (steps : ℕ) (point : HoldPoint S) (run : Run) →
    IsPoint system (first_course system steps) race point →
    alternate_after system listed race (Some (hold_at system listed race point)) ≡ Ran run → ¬ IsRepeat run.outcome →
    run_of system run.turns steps ≡ run
unfolding run_of
point-returns system facts listed race steps point run at is never =
    let course = held_course race.t1 point.course in
    let resumes = hold-resumes (point.course.left + 1) system facts listed race point.first point.past course (omega arith) refl in
    let returns = ending-returns system facts listed race point.first course (hold_at system listed race point) run at.may_do resumes is never in
    at.leads.back run.turns run returns.0 returns.1 (steps + 1) from_front (omega arith) (refl, refl)

held-returns : {S : Type 0} (system : System S) (facts : IsSystem system) (listed : List ℕ) (race : Race)
    (steps : ℕ) (run : Run) (reaches : Bool)
    (point : Option (HoldPoint S)) →
    ((one : HoldPoint S) → point ≡ Some one → IsPoint system (first_course system steps) race one) →
    alternate_after system listed race (cond reaches (option_map (hold_at system listed race) point) None) ≡ Ran run →
    ¬ IsRepeat run.outcome → run_of system run.turns steps ≡ run
held-returns system facts listed race steps run false point at is never = absurd (let h : ⊥ = cc in h)
held-returns system facts listed race steps run true None at is never = absurd (let h : ⊥ = cc in h)
held-returns system facts listed race steps run true (Some point) at is never =
    point-returns system facts listed race steps point run (at point refl) is never

pub point_of-is : (code : Module) (case : Case) (race : Race) (input : Input) (point : HoldPoint State) →
    point_of code case race input ≡ Some point →
    let system = machine_of (setting_of code case input) in IsPoint system (first_course system case.steps) race point
unfolding point_of moments_of
point_of-is code case race input point is =
    let system = machine_of (setting_of code case input) in
    let start = first_course system case.steps in
    let moments = primary_moments code case input in
    point-in system start race point moments (from_first race moments)
    (from_turn-head (Comes system start) race.t1 race.v1 moments
    (moments-come (case.steps + 1) system (machine-is_system (setting_of code case input)) case.turns start start
    (leads-itself system start))) is

pub alternate-replays : AlternateReplays
unfolding hold_of
alternate-replays code case race input schedule run is never =
    let setting = setting_of code case input in
    let system = machine_of setting in
    let facts = machine-is_system setting in
    let whole = alternate-is_whole system facts case.turns race (hold_of code case race input) in
    held-returns system facts case.turns race case.steps run
    (Reaches code case race input) (point_of code case race input) (point_of-is code case race input)
    (sym whole ∙ is) never

pub primary_job-replays : PrimaryJobReplays
primary_job-replays code case input never =
    let system = machine_of (setting_of code case input) in
    let same = unrepeated-is_run system case.turns case.steps never in
    rw same (run_of-turns (record {
      is_enabled = choice-enabled;
      is_some = choice-unless_none;
      is_last = choice-is_last;
      is_listed = choice-listed;
    }) system case.turns case.steps)
