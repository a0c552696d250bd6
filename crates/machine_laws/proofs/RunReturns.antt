-- A run from a course on, given back as the list, is taken again.
use Rattle.std.proofs.Common.{◌≡◌, ℕ, zero, suc, ◌<◌, List, Option, Some, None, refl, arith}
use Rattle.machine_model.specs.declared.mode.Mode.{Mode}
use Rattle.machine_model.specs.declared.mode.Mode.TheVariants.{Before, Hold, After}
use Rattle.run_types.specs.declared.run.Run.{Run}
use Rattle.run_types.specs.declared.run.TurnEnd.{TurnEnd}
use Rattle.run_types.specs.declared.run.TurnEnd.TheVariants as ends
use Rattle.machine_model.specs.Policy.{Choice, choose}
use Rattle.machine_model.specs.PolicyLaws.{MayChoose, mode_after}
use Rattle.machine_model.specs.Run.{Course, advanced, advanced_by, advanced_with, onward_or_concluded, run_from}
use Rattle.machine_model.specs.System.{System}
use Rattle.machine_model.specs.SystemLaws.{IsSystem}
use Rattle.machine_laws.proofs.Leading.{AdvanceReturns, IsEnabled, Returns, end_of, listed-next, next_course, returns-none, returns-turn}
use Rattle.machine_model.proofs.Policies.{choice-enabled, choice-is_last, choice-unless_none}
use Rattle.machine_laws.proofs.Replays.{chosen-begins, run_from-begins}

-- after a choice in these modes each thread may be chosen
abbrev pub IsFree : Mode → Type 0
IsFree Before = Unit {0}
IsFree (Hold held) = ⊥
IsFree (After held chosen) = Unit {0}

free-after : (mode : Mode) → IsFree mode → IsFree (mode_after mode)
free-after Before free = tt
free-after (Hold held) free = free
free-after (After held chosen) free = tt

may-choose-after : (mode : Mode) (thread : ℕ) → IsFree mode → MayChoose (mode_after mode) thread
may-choose-after Before thread free = tt
may-choose-after (Hold held) thread free = absurd free
may-choose-after (After held chosen) thread free = tt

-- the chooser finds none only where no thread is enabled
abbrev pub FindsSome : {S : Type 0} → System S → List ℕ → Course S → Type 0
FindsSome system listed course =
    choose listed course.policy (system.enabled course.state) ≡ None → (thread : ℕ) → ¬ IsEnabled system course thread

finds-after : {S : Type 0} (system : System S) (listed : List ℕ) (course : Course S) (mode : Mode) → IsFree mode →
    course.policy.mode ≡ mode_after mode → FindsSome system listed course
finds-after system listed course mode free is none thread among =
    choice-unless_none listed course.policy (system.enabled course.state) thread none among
    (rw is (may-choose-after mode thread free))

-- a run from a course on is taken again
pub run-returns : {S : Type 0} (most : ℕ) (system : System S) (facts : IsSystem system) (listed again : List ℕ)
    (course : Course S) → course.left < most →
    IsFree course.policy.mode → FindsSome system listed course → again ≡ (run_from most system listed course).turns →
    Returns system again course (run_from most system listed course)
unfolding run_from advanced
run-returns zero system facts listed again course less free finds same = absurd (omega arith)
run-returns {S} (suc most) system facts listed again course less free finds same =
    go (run-returns most system facts listed again) (choose listed course.policy threads) refl same
  where
    Rest : Type 0
    Rest =
        (next : Course S) → next.left < most → IsFree next.policy.mode → FindsSome system listed next →
        again ≡ (run_from most system listed next).turns → Returns system again next (run_from most system listed next)

    threads : List ℕ
    threads = system.enabled course.state

    on : Course S → Run
    on = run_from most system listed

    by_end : Rest → (choice : Choice) → choose listed course.policy threads ≡ Some choice → (end : TurnEnd) →
        end_of system course choice ≡ end →
        again ≡ (onward_or_concluded system on (advanced_by choice.thread (next_course system course choice) end)).turns →
        AdvanceReturns system again (onward_or_concluded system on (advanced_by choice.thread (next_course system course choice) end))
        (advanced_by choice.thread (next_course system course choice) end)
    by_end rest choice found ends.Going is same =
        let balances = facts.costs course.state choice.thread course.left in
        let pays = rw is at balances.pays in
        let mode = (choice-is_last listed course.policy threads choice found).1 in
        rest (next_course system course choice) (omega (arith, less, balances.grows, pays))
        (rw mode (free-after course.policy.mode free))
        (finds-after system listed (next_course system course choice) course.policy.mode free mode) same
    by_end rest choice found (ends.Exit status) is same = refl
    by_end rest choice found (ends.Trap trap site) is same = refl
    by_end rest choice found ends.Spent is same = refl

    go : Rest → (found : Option Choice) → choose listed course.policy threads ≡ found →
        again ≡ (onward_or_concluded system on (advanced_with system course found)).turns →
        Returns system again course (onward_or_concluded system on (advanced_with system course found))
    go rest None found same = returns-none system again course (finds found)
    go rest (Some choice) found same =
        let begins = chosen-begins on system course choice (run_from-begins most system listed) in
        returns-turn system facts again (onward_or_concluded system on (advanced_with system course (Some choice))) course choice
        (choice-enabled listed course.policy threads choice found).0
        (listed-next course.turns choice.thread again (rw same begins))
        (by_end rest choice found (end_of system course choice) refl same)
