-- A run: turns of enabled threads, as a chooser picks them, until the process ends, no thread is enabled, or
-- the budget of steps is spent.
use Rattle.std.specs.Prelude.{ℕ, zero, suc, ◌+◌, List, [], ◌∷◌, ◌++◌, Option, Some, None}
use Rattle.run_types.specs.declared.run.Outcome.{Outcome}
use Rattle.run_types.specs.declared.run.Outcome.TheVariants as outcomes
use Rattle.run_types.specs.declared.run.Run.{Run}
use Rattle.run_types.specs.declared.run.TurnEnd.{TurnEnd}
use Rattle.run_types.specs.declared.run.TurnEnd.TheVariants as ends
use Rattle.machine_model.specs.Policy.{Policy, Choice, from_front, choose}
use Rattle.machine_model.specs.System.{System}
use Rattle.machine_model.specs.Turn.{Turned}

-- a run so far: the state, the steps that are left, the numbers decided, the threads chosen, the chooser
pub record Course (S : Type 0) : Type 0 where
  pub state : S
  pub left : ℕ
  pub decided : List ℕ
  pub turns : List ℕ
  pub policy : Policy

-- a run goes on, or is over
pub data Advance (S : Type 0) : Type 0 where
  Onward : Course S → Advance S
  Over : Course S → Outcome → Advance S

abbrev pub concluded : {S : Type 0} → System S → Course S → Outcome → Run
concluded system course outcome =
    record { turns = course.turns; decisions = course.decided; output = system.output course.state; outcome = outcome }

-- the course after a turn of the chosen thread, also where it trapped or was cut
abbrev pub after_turn : {S : Type 0} → Course S → Choice → Turned S → Course S
after_turn course choice turned = record {
  state = turned.after;
  left = turned.left;
  decided = course.decided ++ turned.decided;
  turns = course.turns ++ choice.thread ∷ [];
  policy = choice.next;
}

abbrev pub advanced_by : {S : Type 0} → ℕ → Course S → TurnEnd → Advance S
advanced_by thread course ends.Going = Onward course
advanced_by thread course (ends.Exit status) = Over course (outcomes.Exit status)
advanced_by thread course (ends.Trap trap site) = Over course (outcomes.Trap trap thread site)
advanced_by thread course ends.Spent = Over course outcomes.Spent

abbrev pub advanced_with : {S : Type 0} → System S → Course S → Option Choice → Advance S
advanced_with system course None = Over course outcomes.Deadlock
advanced_with system course (Some choice) =
    let turned = system.turn course.state choice.thread course.left in
    advanced_by choice.thread (after_turn course choice turned) turned.end

-- one turn of a run; where no thread is enabled there is none
unfoldable pub advanced : {S : Type 0} → System S → List ℕ → Course S → Advance S
advanced system listed course =
    advanced_with system course (choose listed course.policy (system.enabled course.state))

abbrev pub onward_or_concluded : {S : Type 0} → System S → (Course S → Run) → Advance S → Run
onward_or_concluded system go (Onward course) = go course
onward_or_concluded system go (Over course outcome) = concluded system course outcome

-- the run from here on, of at most `most` turns
unfoldable pub run_from : {S : Type 0} → ℕ → System S → List ℕ → Course S → Run
run_from zero system listed course = concluded system course outcomes.Spent
run_from (suc most) system listed course =
    onward_or_concluded system (run_from most system listed) (advanced system listed course)

abbrev pub first_course : {S : Type 0} → System S → ℕ → Course S
first_course system steps =
    record { state = system.start; left = steps; decided = []; turns = []; policy = from_front }

-- the run that follows a list of turns within a budget of steps; each turn costs at least 1, or is cut
unfoldable pub run_of : {S : Type 0} → System S → List ℕ → ℕ → Run
run_of system listed steps = run_from (steps + 1) system listed (first_course system steps)
