-- Turns of enabled threads lead from one course to another. Given back as the list, they are taken again, whatever
-- chose them.
use Rattle.std.proofs.Common.{◌≡◌, ℕ, zero, suc, ◌<◌, List, ◌∷◌, [], ◌++◌, length, Option, Some, None, refl, ap, ◌∙◌, append_assoc, arith, length-append}
use Rattle.std.specs.Prelude.{Contains, slice_get}
use Rattle.run_types.specs.declared.run.Outcome.TheVariants as outcomes
use Rattle.run_types.specs.declared.run.Run.{Run}
use Rattle.run_types.specs.declared.run.TurnEnd.{TurnEnd}
use Rattle.run_types.specs.declared.run.TurnEnd.TheVariants as ends
use Rattle.machine_model.specs.Policy.{Choice, Policy, choose}
use Rattle.machine_model.specs.Run.{Advance, Course, advanced, advanced_by, advanced_with, after_turn, onward_or_concluded, run_from, concluded}
use Rattle.machine_model.specs.Run.Advance.{Onward, Over}
use Rattle.machine_model.specs.System.{System}
use Rattle.machine_model.specs.SystemLaws.{IsSystem}
use Rattle.machine_model.proofs.Policies.{choice-enabled, choice-is_last, choice-listed, choice-unless_none}
use Rattle.machine_laws.proofs.Replays.{Begins, Begins-itself, IsAt, chosen_by, may-choose, mode-stays, next-in}

-- from this course on, a chooser that is as far in the list as the course has turns gives the run, whatever chose
-- the turns before
abbrev pub Returns : {S : Type 0} → System S → List ℕ → Course S → Run → Type 0
Returns system again course run =
    (most : ℕ) (policy : Policy) → course.left < most → IsAt policy (length course.turns) →
    run_from most system again (chosen_by policy course) ≡ run

-- the course after a turn that was chosen
abbrev pub next_course : {S : Type 0} → System S → Course S → Choice → Course S
next_course system course choice = after_turn course choice (system.turn course.state choice.thread course.left)

-- and how the turn ends
abbrev pub end_of : {S : Type 0} → System S → Course S → Choice → TurnEnd
end_of system course choice = (system.turn course.state choice.thread course.left).end

abbrev pub IsEnabled : {S : Type 0} → System S → Course S → ℕ → Type 0
IsEnabled system course thread = Contains (system.enabled course.state) thread

-- the listed turn is taken again, and the chooser is one further in the list
record Again {S : Type 0} (again : List ℕ) (system : System S) (course : Course S) (choice : Choice) (policy : Policy) : Type 0 where
  next : Policy
  at : IsAt next (length (course.turns ++ choice.thread ∷ []))
  advances : advanced system again (chosen_by policy course)
      ≡ advanced_by choice.thread (chosen_by next (next_course system course choice)) (end_of system course choice)

takes-again : {S : Type 0} (again : List ℕ) (system : System S) (course : Course S) (choice : Choice)
    (policy : Policy) →
    IsEnabled system course choice.thread → slice_get again (length course.turns) ≡ Some choice.thread →
    IsAt policy (length course.turns) → Again again system course choice policy
unfolding advanced
takes-again again system course choice policy among listed at = go (choose again policy threads) refl
  where
    threads : List ℕ
    threads = system.enabled course.state

    go : (found : Option Choice) → choose again policy threads ≡ found → Again again system course choice policy
    go None found =
        absurd (choice-unless_none again policy threads choice.thread found among (may-choose policy choice.thread at.0))
    go (Some other) found =
        let next : slice_get again policy.follow.position ≡ Some choice.thread = rw at.1 listed in
        let picks = choice-listed again policy threads other choice.thread (mode-stays policy at.0)
        (may-choose policy choice.thread at.0) next among found in
        let mode = (choice-is_last again policy threads other found).1 ∙ mode-stays policy at.0 ∙ at.0 in
        record {
          next = other.next;
          at = (mode, omega (arith, picks.1, at.1, length-append course.turns (choice.thread ∷ [])));
          advances = rw (found, picks.0) refl;
        }

-- what a turn leads to gives the run
abbrev pub AdvanceReturns : {S : Type 0} → System S → List ℕ → Run → Advance S → Type 0
AdvanceReturns system again run (Onward next) = Returns system again next run
AdvanceReturns system again run (Over last outcome) = concluded system last outcome ≡ run

pub returns-turn : {S : Type 0} (system : System S) (facts : IsSystem system) (again : List ℕ) (run : Run)
    (course : Course S) (choice : Choice) →
    IsEnabled system course choice.thread → slice_get again (length course.turns) ≡ Some choice.thread →
    AdvanceReturns system again run (advanced_by choice.thread (next_course system course choice) (end_of system course choice)) →
    Returns system again course run
unfolding run_from
returns-turn system facts again run course choice among listed leads zero policy less at = absurd (omega arith)
returns-turn {S} system facts again run course choice among listed leads (suc most) policy less at =
    rw taken.advances (go (end_of system course choice) refl leads)
  where
    taken : Again again system course choice policy
    taken = takes-again again system course choice policy among listed at

    after : Course S
    after = next_course system course choice

    go : (end : TurnEnd) → end_of system course choice ≡ end →
        AdvanceReturns system again run (advanced_by choice.thread after end) →
        onward_or_concluded system (run_from most system again) (advanced_by choice.thread (chosen_by taken.next after) end) ≡ run
    go ends.Going is back =
        let balances = facts.costs course.state choice.thread course.left in
        let pays = rw is at balances.pays in
        back most taken.next (omega (arith, balances.grows, pays)) taken.at
    go (ends.Exit status) is back = back
    go (ends.Trap trap site) is back = back
    go ends.Spent is back = back

-- where no thread is enabled, none is chosen again
pub returns-none : {S : Type 0} (system : System S) (again : List ℕ) (course : Course S) →
    ((thread : ℕ) → ¬ IsEnabled system course thread) → Returns system again course (concluded system course outcomes.Deadlock)
unfolding run_from advanced
returns-none system again course none zero policy less at = absurd (omega arith)
returns-none system again course none (suc most) policy less at = go (choose again policy threads) refl
  where
    threads : List ℕ
    threads = system.enabled course.state

    go : (found : Option Choice) → choose again policy threads ≡ found →
        onward_or_concluded system (run_from most system again) (advanced_with system (chosen_by policy course) found)
        ≡ concluded system course outcomes.Deadlock
    go None found = refl
    go (Some choice) found = absurd (none choice.thread (choice-enabled again policy threads choice found).0)

-- turns lead from a course to another: what returns from there, returns from here
pub record Leads {S : Type 0} (system : System S) (course after : Course S) : Type 0 where
  pub begins : Begins course.turns after.turns
  pub back : (again : List ℕ) (run : Run) → Begins after.turns again → Returns system again after run →
      Returns system again course run

pub leads-itself : {S : Type 0} (system : System S) (course : Course S) → Leads system course course
leads-itself system course =
    record { begins = Begins-itself course.turns; back = λ again run begins returns. returns }

pub Begins-on : (one two three : List ℕ) → Begins one two → Begins two three → Begins one three
Begins-on one two three first second = (
  first.0 ++ second.0,
  rw (second.1, first.1) (append_assoc one first.0 second.0),
)

pub leads-on : {S : Type 0} (system : System S) (one two three : Course S) → Leads system one two →
    Leads system two three →
    Leads system one three
leads-on system one two three first second = record {
  begins = Begins-on one.turns two.turns three.turns first.begins second.begins;
  back = λ again run begins returns.
      first.back again run (Begins-on two.turns three.turns again second.begins begins)
      (second.back again run begins returns);
}

-- the list has the turn that comes next
pub listed-next : (turns : List ℕ) (thread : ℕ) (again : List ℕ) → Begins (turns ++ thread ∷ []) again →
    slice_get again (length turns) ≡ Some thread
listed-next turns thread again begins = next-in turns thread again begins.0 begins.1

pub leads-turn : {S : Type 0} (system : System S) (facts : IsSystem system) (course next : Course S)
    (choice : Choice) → IsEnabled system course choice.thread →
    advanced_by choice.thread (next_course system course choice) (end_of system course choice) ≡ Onward next →
    next.turns ≡ course.turns ++ choice.thread ∷ [] → Leads system course next
leads-turn system facts course next choice among onward turns = record {
  begins = (choice.thread ∷ [], turns);
  back = λ again run begins returns.
      returns-turn system facts again run course choice among
      (listed-next course.turns choice.thread again (rw turns at begins))
      (rw onward returns);
}

-- such a turn costs a step
pub turn-less : {S : Type 0} (system : System S) (facts : IsSystem system) (course next : Course S)
    (choice : Choice) (most : ℕ) →
    advanced_by choice.thread (next_course system course choice) (end_of system course choice) ≡ Onward next →
    course.left < suc most → next.left < most
turn-less {S} system facts course next choice most onward less = go (end_of system course choice) refl onward
  where
    after : Course S
    after = next_course system course choice

    go : (end : TurnEnd) → end_of system course choice ≡ end → advanced_by choice.thread after end ≡ Onward next →
        next.left < most
    go ends.Going ending onward =
        let balances = facts.costs course.state choice.thread course.left in
        let pays = rw ending at balances.pays in
        let same : after ≡ next = cc in
        omega (arith, less, balances.grows, pays, ap (λ (one : Course S). one.left) same)
    go (ends.Exit status) ending onward = absurd (let h : ⊥ = cc in h)
    go (ends.Trap trap site) ending onward = absurd (let h : ⊥ = cc in h)
    go ends.Spent ending onward = absurd (let h : ⊥ = cc in h)
