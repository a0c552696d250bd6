-- What a hold gives, turn by turn, and the alternate after it.
use Rattle.std.proofs.Common.{◌≡◌, ℕ, zero, suc, ◌+◌, ◌≤◌, Bool, true, false, ◌&&◌, List, Some, refl, sym, ap, subst, ◌∙◌, arith}
use Rattle.std.proofs.lemmas.Bool.{eq-eqb}
use Rattle.ir_types.specs.declared.«module».Module.{Module}
use Rattle.machine_model.specs.declared.access.Access.{Access}
use Rattle.run_types.specs.declared.case.Case.{Case}
use Rattle.run_types.specs.declared.race.Race.{Race}
use Rattle.run_types.specs.declared.run.Outcome.{Outcome}
use Rattle.run_types.specs.declared.run.Outcome.TheVariants as outcomes
use Rattle.machine_model.specs.declared.state.State.{State}
use Rattle.machine_model.specs.Hold.{Held, held_after, held_from, held_over}
use Rattle.machine_model.specs.Hold.Held.{RunOver}
use Rattle.machine_model.specs.Moment.{Moment, access_at}
use Rattle.machine_model.specs.Policy.{Choice, choose}
use Rattle.machine_model.specs.Reach.{does_second, is_second}
use Rattle.machine_model.specs.Repeat.{Snapshot}
use Rattle.machine_model.specs.Run.{Advance, Course, advanced_with, concluded}
use Rattle.machine_model.specs.System.{System}
use Rattle.race_top.specs.declared.order_enforcer.hold.Enforced.{Enforced}
use Rattle.race_top.specs.declared.order_enforcer.hold.Enforced.TheVariants as answers
use Rattle.race_top.specs.declared.order_enforcer.hold.HoldAdvance.{HoldAdvance}
use Rattle.race_top.specs.HoldTurn.{LeadsTo}
use Rattle.race_top.specs.OrderEnforcer.{IsReady}

and-true : (one other : Bool) → one ≡ true → other ≡ (one && other)
and-true one other is = rw is refl

-- a run that ends otherwise than by an exit is what the hold leaves
pub over-ran : {S : Type 0} (system : System S) (last : Course S) (outcome : Outcome) →
    ((status : ℕ) → outcome ≡ outcomes.Exit status → ⊥) → held_over system last outcome ≡ RunOver (concluded system last outcome)
over-ran system last (outcomes.Exit status) never = absurd (never status refl)
over-ran system last (outcomes.Trap trap thread site) never = refl
over-ran system last outcomes.Deadlock never = refl
over-ran system last (outcomes.Repeats turn earlier) never = refl
over-ran system last outcomes.Spent never = refl

-- of a turn of the second thread its access tells
pub second-thread : {S : Type 0} (system : System S) (race : Race) (first : Access) (moment : Moment S) →
    moment.thread ≡ race.t2 →
    is_second race first (access_at system moment) ≡ does_second system race first moment
second-thread system race first moment same =
    and-true _ (is_second race first (access_at system moment)) (eq-eqb moment.thread race.t2 same)

-- the turn of a thread that was chosen while the second thread has not ended; choosing changes the chooser alone
pub hold-turn : {S : Type 0} (most : ℕ) (system : System S) (listed : List ℕ) (race : Race) (first : Access)
    (past : List (Snapshot S))
    (before after : Course S) (thread : ℕ) (done : Bool) (advance : Advance S) →
    system.ended before.state race.t2 ≡ false →
    choose listed before.policy (system.enabled before.state) ≡ Some (record { thread = thread; next = after.policy }) →
    after ≡ record before { policy = after.policy } →
    done ≡ does_second system race first (record { before = after; thread = thread }) →
    advanced_with system after (Some (record { thread = thread; next = after.policy })) ≡ advance →
    held_from (suc most) system listed race first past before
    ≡ held_after system (held_from most system listed race first) past done advance
unfolding held_from
hold-turn {S} most system listed race first past before after thread done advance lasts chosen same does taken =
    let go = held_from most system listed race first in
    let choice : Choice = record { thread = thread; next = after.policy } in
    let does_before : done ≡ does_second system race first (record { before = before; thread = thread }) =
    does ∙ ap (λ (course : Course S). does_second system race first (record { before = course; thread = thread })) same in
    let taken_before : advanced_with system before (Some choice) ≡ advance =
    sym (ap (λ (course : Course S). advanced_with system course (Some choice)) same) ∙ taken in
    rw (lasts, chosen)
    (ap (λ (second : Bool). held_after system go past second (advanced_with system before (Some choice))) (sym does_before)
    ∙ ap (held_after system go past done) taken_before)

-- what follows from a turn follows from the hold so far
pub hold-leads : (from : ℕ → List (Snapshot State) → Course State → Held State) (most rest : ℕ)
    (past : List (Snapshot State)) (course : Course State)
    (advance : HoldAdvance) (held : Held State) → most ≡ rest + 1 → held ≡ from most past course →
    LeadsTo (from rest) advance (from (suc rest) past course) → LeadsTo (from rest) advance held
hold-leads from most rest past course advance held count is leads =
    let same : suc rest ≡ most = omega arith in
    subst (λ (end : Held State). LeadsTo (from rest) advance end) (ap (λ (turns : ℕ). from turns past course) same ∙ sym is) leads

-- where no turn is allowed any more, the run is spent
pub hold-spent : {S : Type 0} (most : ℕ) (system : System S) (listed : List ℕ) (race : Race) (first : Access)
    (past : List (Snapshot S))
    (course : Course S) (held : Held S) → most ≡ 0 → held ≡ held_from most system listed race first past course →
    held ≡ RunOver (concluded system course outcomes.Spent)
unfolding held_from
hold-spent zero system listed race first past course held none is = is
hold-spent (suc most) system listed race first past course held none is = absurd (omega arith)

-- bounds may be larger
pub ready-within : (code : Module) (case : Case) (left more turns most : ℕ) (enforced : Enforced) →
    left ≤ more → turns ≤ most → IsReady code case left turns enforced → IsReady code case more most enforced
ready-within code case left more turns most (answers.Ready course past) fewer short ready =
    (ready.0, omega (arith, ready.1), omega (arith, ready.2))
ready-within code case left more turns most (answers.Not reason course) fewer short ready = tt
ready-within code case left more turns most (answers.Ended run) fewer short ready = tt
