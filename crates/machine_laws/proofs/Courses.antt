-- What a run gives from a course on, turn by turn.
use Rattle.std.proofs.Common.{◌≡◌, ℕ, zero, suc, ◌+◌, List, refl, arith}
use Rattle.run_types.specs.declared.run.Outcome.{Outcome}
use Rattle.run_types.specs.declared.run.Outcome.TheVariants as outcomes
use Rattle.run_types.specs.declared.run.Run.{Run}
use Rattle.machine_model.specs.Run.{Course, advanced, first_course, run_from, run_of, concluded}
use Rattle.machine_model.specs.Run.Advance.{Onward, Over}
use Rattle.machine_model.specs.System.{System}

pub run-first_course : {S : Type 0} (most : ℕ) (system : System S) (listed : List ℕ) (steps : ℕ) (course : Course S) →
    most ≡ steps + 1 → course ≡ first_course system steps → run_from most system listed course ≡ run_of system listed steps
unfolding run_of
run-first_course most system listed steps course all is = rw (all, is) refl

-- after a turn the run goes on with one turn less
pub run-onward : {S : Type 0} (most rest : ℕ) (system : System S) (listed : List ℕ) (course next : Course S)
    (run : Run) →
    most ≡ rest + 1 → advanced system listed course ≡ Onward next →
    run_from most system listed course ≡ run → run_from rest system listed next ≡ run
unfolding run_from
run-onward zero rest system listed course next run count is from = absurd (omega arith)
run-onward (suc most) rest system listed course next run count is from =
    let same : rest ≡ most = omega arith in rw same (rw is at from)

-- where it is over, that is what it leaves
pub run-over : {S : Type 0} (most rest : ℕ) (system : System S) (listed : List ℕ) (course last : Course S)
    (outcome : Outcome) (run : Run) →
    most ≡ rest + 1 → advanced system listed course ≡ Over last outcome →
    run_from most system listed course ≡ run → concluded system last outcome ≡ run
unfolding run_from
run-over zero rest system listed course last outcome run count is from = absurd (omega arith)
run-over (suc most) rest system listed course last outcome run count is from = rw is at from

-- where no turn is allowed any more, it is spent
pub run-spent : {S : Type 0} (most : ℕ) (system : System S) (listed : List ℕ) (course : Course S) (run : Run) →
    most ≡ 0 → run_from most system listed course ≡ run → concluded system course outcomes.Spent ≡ run
unfolding run_from
run-spent zero system listed course run none from = from
run-spent (suc most) system listed course run none from = absurd (omega arith)
