-- What a whole run leaves is paid from its budget, so it has no more turns than that and one.
use Rattle.std.proofs.Common.{◌≡◌, ℕ, zero, suc, ◌+◌, ◌<◌, ◌≤◌, List, ◌++◌, ◌∷◌, [], length, Option, Some, None, refl, ap, arith, length-append}
use Rattle.run_types.specs.declared.run.Run.{Run}
use Rattle.run_types.specs.declared.run.TurnEnd.{TurnEnd}
use Rattle.run_types.specs.declared.run.TurnEnd.TheVariants as ends
use Rattle.machine_model.specs.Policy.{Choice}
use Rattle.machine_model.specs.Run.{Advance, Course, advanced, advanced_by, advanced_with, after_turn, first_course, onward_or_concluded, run_from, run_of}
use Rattle.machine_model.specs.Run.Advance.{Onward, Over}
use Rattle.machine_model.specs.System.{System}
use Rattle.machine_model.specs.SystemLaws.{IsSystem, Pays}
use Rattle.machine_model.specs.Turn.{Turned}

-- the turns, the items and the steps that are left are within the budget
abbrev pub worth : {S : Type 0} → System S → Course S → ℕ
worth system course = length course.turns + length (system.output course.state) + course.left

-- where a run goes on, its turn has been paid
abbrev pub AdvanceBalances : {S : Type 0} → System S → Course S → Advance S → Type 0
AdvanceBalances system course (Onward next) = (next.left < course.left) × (worth system next ≤ worth system course)
AdvanceBalances system course (Over last outcome) = worth system last ≤ worth system course + 1

advanced_by-balances : {S : Type 0} (system : System S) (course : Course S) (choice : Choice) (turned : Turned S) →
    Pays system course.state course.left turned →
    AdvanceBalances system course (advanced_by choice.thread (after_turn course choice turned) turned.end)
advanced_by-balances system course choice turned balances =
    go turned.end refl
  where
    long : length (course.turns ++ choice.thread ∷ []) ≡ length course.turns + 1
    long = length-append course.turns (choice.thread ∷ [])

    go : (end : TurnEnd) → turned.end ≡ end →
        AdvanceBalances system course (advanced_by choice.thread (after_turn course choice turned) end)
    go ends.Going is =
        let pays = rw is at balances.pays in
        (omega (arith, balances.grows, pays), omega (arith, long, pays))
    go (ends.Exit status) is = let pays = rw is at balances.pays in omega (arith, long, pays)
    go (ends.Trap trap site) is = let pays = rw is at balances.pays in omega (arith, long, pays)
    go ends.Spent is = let pays = rw is at balances.pays in omega (arith, long, pays)

advanced_with-balances : {S : Type 0} (system : System S) (facts : IsSystem system) (course : Course S)
    (choice : Option Choice) →
    AdvanceBalances system course (advanced_with system course choice)
advanced_with-balances system facts course None = omega arith
advanced_with-balances system facts course (Some choice) =
    advanced_by-balances system course choice (system.turn course.state choice.thread course.left)
    (facts.costs course.state choice.thread course.left)

pub advanced-balances : {S : Type 0} (system : System S) (facts : IsSystem system) (listed : List ℕ)
    (course : Course S) →
    AdvanceBalances system course (advanced system listed course)
unfolding advanced
advanced-balances system facts listed course = advanced_with-balances system facts course _

abbrev pub IsWithin : ℕ → Run → Type 0
IsWithin budget run = length run.turns + length run.output ≤ budget

onward-within : {S : Type 0} (system : System S) (go : Course S → Run) (course : Course S) (advance : Advance S) →
    AdvanceBalances system course advance →
    ((next : Course S) → IsWithin (worth system next + 1) (go next)) → IsWithin (worth system course + 1) (onward_or_concluded system go advance)
onward-within system go course (Onward next) balances within = let kept = within next in omega (arith, balances.1)
onward-within system go course (Over last outcome) balances within = omega arith

run_from-within : {S : Type 0} (most : ℕ) (system : System S) (facts : IsSystem system) (listed : List ℕ)
    (course : Course S) →
    IsWithin (worth system course + 1) (run_from most system listed course)
unfolding run_from
run_from-within zero system facts listed course = omega arith
run_from-within (suc most) system facts listed course =
    onward-within system (run_from most system listed) course (advanced system listed course)
    (advanced-balances system facts listed course) (run_from-within most system facts listed)

pub run_of-within : {S : Type 0} (system : System S) (facts : IsSystem system) (listed : List ℕ) (steps : ℕ) →
    IsWithin (steps + 1) (run_of system listed steps)
unfolding run_of
run_of-within system facts listed steps =
    let within = run_from-within (steps + 1) system facts listed (first_course system steps) in
    omega (arith, within, ap length facts.silent)

onward-agrees : {S : Type 0} (system : System S) (go other : Course S → Run) (course : Course S)
    (advance : Advance S) → AdvanceBalances system course advance →
    ((next : Course S) → next.left < course.left → go next ≡ other next) →
    onward_or_concluded system go advance ≡ onward_or_concluded system other advance
onward-agrees system go other course (Onward next) balances agree = agree next balances.0
onward-agrees system go other course (Over last outcome) balances agree = refl

-- any two bounds above what is left agree
pub run_from-agrees : {S : Type 0} (one two : ℕ) (system : System S) (facts : IsSystem system) (listed : List ℕ)
    (course : Course S) →
    course.left < one → course.left < two → run_from one system listed course ≡ run_from two system listed course
unfolding run_from
run_from-agrees zero two system facts listed course h k = absurd (omega arith)
run_from-agrees (suc one) zero system facts listed course h k = absurd (omega arith)
run_from-agrees (suc one) (suc two) system facts listed course h k =
    onward-agrees system (run_from one system listed) (run_from two system listed) course (advanced system listed course)
    (advanced-balances system facts listed course)
    (λ next less. run_from-agrees one two system facts listed next (omega arith) (omega arith))

pub run_of-agrees : {S : Type 0} (system : System S) (facts : IsSystem system) (listed : List ℕ) (steps most : ℕ) →
    steps < most →
    run_from most system listed (first_course system steps) ≡ run_of system listed steps
unfolding run_of
run_of-agrees system facts listed steps most h =
    run_from-agrees most (steps + 1) system facts listed (first_course system steps) h (omega arith)
