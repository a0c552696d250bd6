-- The moments of a run are its turns.
use Rattle.std.proofs.Common.{◌≡◌, ℕ, zero, suc, ◌+◌, List, ◌∷◌, [], ◌++◌, map, Option, Some, None, sym, ◌∙◌, append_assoc}
use Rattle.std.proofs.lemmas.List.{append-nil}
use Rattle.run_types.specs.declared.run.Run.{Run}
use Rattle.run_types.specs.declared.run.TurnEnd.{TurnEnd}
use Rattle.run_types.specs.declared.run.TurnEnd.TheVariants as ends
use Rattle.machine_laws.specs.JobLaws.{MomentsAreTurns}
use Rattle.machine_model.specs.Moment.{Moment, moments_from, moments_of, moments_with, onward_or_none}
use Rattle.machine_model.specs.Policy.{Choice, choose}
use Rattle.machine_model.specs.Run.{Course, advanced, advanced_by, advanced_with, after_turn, first_course, onward_or_concluded, run_from, run_of}
use Rattle.machine_model.specs.System.{System}

abbrev threads_of : {S : Type 0} → List (Moment S) → List ℕ
threads_of moments = map (λ moment. moment.thread) moments

-- the turns of a run from a course on are its turns so far, and then its moments
abbrev Continues : {S : Type 0} → (Course S → Run) → (Course S → List (Moment S)) → Type 0
Continues {S} go moments = (course : Course S) → (go course).turns ≡ course.turns ++ threads_of (moments course)

advanced_by-continues : {S : Type 0} (system : System S) (go : Course S → Run)
    (moments : Course S → List (Moment S)) (thread : ℕ) (next : Course S)
    (end : TurnEnd) → Continues go moments →
    (onward_or_concluded system go (advanced_by thread next end)).turns
    ≡ next.turns ++ threads_of (onward_or_none moments (advanced_by thread next end))
advanced_by-continues system go moments thread next ends.Going continues = continues next
advanced_by-continues system go moments thread next (ends.Exit status) continues = sym (append-nil next.turns)
advanced_by-continues system go moments thread next (ends.Trap trap site) continues = sym (append-nil next.turns)
advanced_by-continues system go moments thread next ends.Spent continues = sym (append-nil next.turns)

advanced_with-continues : {S : Type 0} (system : System S) (go : Course S → Run)
    (moments : Course S → List (Moment S)) (course : Course S)
    (choice : Option Choice) → Continues go moments →
    (onward_or_concluded system go (advanced_with system course choice)).turns
    ≡ course.turns ++ threads_of (moments_with moments system course choice)
advanced_with-continues system go moments course None continues = sym (append-nil course.turns)
advanced_with-continues system go moments course (Some choice) continues =
    let turned = system.turn course.state choice.thread course.left in
    let next = after_turn course choice turned in
    advanced_by-continues system go moments choice.thread next turned.end continues
    ∙ append_assoc course.turns (choice.thread ∷ [])
    (threads_of (onward_or_none moments (advanced_by choice.thread next turned.end)))

run_from-continues : {S : Type 0} (most : ℕ) (system : System S) (listed : List ℕ) →
    Continues (run_from most system listed) (moments_from most system listed)
unfolding run_from advanced moments_from
run_from-continues zero system listed = λ course. sym (append-nil course.turns)
run_from-continues (suc most) system listed = λ course.
    advanced_with-continues system (run_from most system listed) (moments_from most system listed) course
    (choose listed course.policy (system.enabled course.state)) (run_from-continues most system listed)

pub moments-are_turns : {S : Type 0} (system : System S) → MomentsAreTurns system
unfolding run_of moments_of
moments-are_turns system listed steps = sym (run_from-continues (steps + 1) system listed (first_course system steps))
