-- The moments of a run, turn by turn.
use Rattle.std.proofs.Common.{◌≡◌, ℕ, zero, suc, ◌+◌, ◌≤◌, List, [], ◌∷◌, ◌++◌, drop, length, take, Option, Some, None, refl, sym, ap, ◌∙◌, add-one, append_assoc, arith, length-drop, suc-add, zero-add}
use Rattle.std.specs.Prelude.{slice_get}
use Rattle.std.proofs.lemmas.List.{map_push}
use Rattle.run_types.specs.declared.run.Outcome.{Outcome}
use Rattle.run_types.specs.declared.run.TurnEnd.{TurnEnd}
use Rattle.run_types.specs.declared.run.TurnEnd.TheVariants as ends
use Rattle.machine_model.specs.Moment.{Moment, moments_from, moments_of, moments_with, onward_or_none}
use Rattle.machine_model.specs.Policy.{Choice, Policy, choose}
use Rattle.machine_model.specs.Run.{Advance, Course, advanced, advanced_by, advanced_with, after_turn, first_course}
use Rattle.machine_model.specs.Run.Advance.{Onward, Over}
use Rattle.machine_model.specs.System.{System}
use Rattle.race_top.specs.Seen.{threads_of}

pub slice_get-drop : {X : Type 0} (xs : List X) (i j : ℕ) → slice_get (drop i xs) j ≡ slice_get xs (i + j)
slice_get-drop xs zero j = rw zero-add refl
slice_get-drop [] (suc i) j = refl
slice_get-drop (x ∷ xs) (suc i) j = rw suc-add (slice_get-drop xs i j)

-- what is left of a list begins with the element at that place, and goes on after it
pub slice_get-here : {X : Type 0} (xs : List X) (i : ℕ) (x : X) (rest : List X) → drop i xs ≡ x ∷ rest →
    slice_get xs i ≡ Some x
slice_get-here xs zero x rest is = rw is refl
slice_get-here [] (suc i) x rest is = cc
slice_get-here (first ∷ xs) (suc i) x rest is = slice_get-here xs i x rest is

drop-suc : {X : Type 0} (xs : List X) (i : ℕ) (x : X) (rest : List X) → drop i xs ≡ x ∷ rest → drop (suc i) xs ≡ rest
drop-suc [] zero x rest is = cc
drop-suc (first ∷ xs) zero x rest is = cc
drop-suc [] (suc i) x rest is = cc
drop-suc (first ∷ xs) (suc i) x rest is = drop-suc xs i x rest is

pub drop-next : {X : Type 0} (xs : List X) (i : ℕ) (x : X) (rest : List X) → drop i xs ≡ x ∷ rest → drop (i + 1) xs ≡ rest
drop-next xs i x rest is = rw add-one (drop-suc xs i x rest is)

take-suc : {X : Type 0} (xs : List X) (i : ℕ) (x : X) (rest : List X) → drop i xs ≡ x ∷ rest →
    take (suc i) xs ≡ take i xs ++ x ∷ []
take-suc [] zero x rest is = cc
take-suc (first ∷ xs) zero x rest is = let same : first ≡ x = cc in rw same refl
take-suc [] (suc i) x rest is = cc
take-suc (first ∷ xs) (suc i) x rest is = ap (λ front. first ∷ front) (take-suc xs i x rest is)

pub take-next : {X : Type 0} (xs : List X) (i : ℕ) (x : X) (rest : List X) → drop i xs ≡ x ∷ rest →
    take (i + 1) xs ≡ take i xs ++ x ∷ []
take-next xs i x rest is = rw add-one (take-suc xs i x rest is)

-- so many at the most, where so few are left
pub length-left : {X : Type 0} (xs : List X) (i few : ℕ) (rest : List X) → drop i xs ≡ rest → length rest ≤ few →
    length xs ≤ i + few
length-left xs i few rest is left = omega (arith, length-drop i xs, ap length is)

-- the turns of one moment more
pub threads_of-next : {S : Type 0} (start turns : List ℕ) (moments : List (Moment S)) (i : ℕ) (moment : Moment S)
    (rest : List (Moment S)) →
    drop i moments ≡ moment ∷ rest → turns ≡ start ++ threads_of (take i moments) →
    turns ++ moment.thread ∷ [] ≡ start ++ threads_of (take (i + 1) moments)
threads_of-next start turns moments i moment rest is taken =
    ap (λ front. front ++ moment.thread ∷ []) taken
    ∙ append_assoc start (threads_of (take i moments)) (moment.thread ∷ [])
    ∙ ap (λ back. start ++ back)
    (sym (map_push (λ one. one.thread) (take i moments) moment) ∙ ap threads_of (sym (take-next moments i moment rest is)))

pub moments-first_course : {S : Type 0} (most : ℕ) (system : System S) (listed : List ℕ) (steps : ℕ) (course : Course S) →
    most ≡ steps + 1 → course ≡ first_course system steps → moments_from most system listed course ≡ moments_of system listed steps
unfolding moments_of
moments-first_course most system listed steps course all is = rw (all, is) refl

-- a turn with which the run goes on
pub record Turned {S : Type 0} (go : Course S → List (Moment S)) (system : System S) (course next : Course S) (chosen : Option Choice) : Type 0 where
  pub choice : Choice
  pub is : chosen ≡ Some choice
  pub moments : moments_with go system course chosen ≡ record { before = course; thread = choice.thread } ∷ go next
  pub turns : next.turns ≡ course.turns ++ choice.thread ∷ []
  pub policy : next.policy ≡ choice.next

advanced_by-onward : {S : Type 0} (thread : ℕ) (course next : Course S) (end : TurnEnd) →
    advanced_by thread course end ≡ Onward next →
    course ≡ next
advanced_by-onward thread course next ends.Going is = cc
advanced_by-onward thread course next (ends.Exit status) is = absurd (let h : ⊥ = cc in h)
advanced_by-onward thread course next (ends.Trap trap site) is = absurd (let h : ⊥ = cc in h)
advanced_by-onward thread course next ends.Spent is = absurd (let h : ⊥ = cc in h)

turned : {S : Type 0} (go : Course S → List (Moment S)) (system : System S) (course next : Course S)
    (chosen : Option Choice) →
    advanced_with system course chosen ≡ Onward next → Turned go system course next chosen
turned go system course next None is = absurd (let h : ⊥ = cc in h)
turned go system course next (Some choice) is =
    let done = system.turn course.state choice.thread course.left in
    let same = advanced_by-onward choice.thread (after_turn course choice done) next done.end is in
    record {
      choice = choice;
      is = refl;
      moments = ap (λ rest. record { before = course; thread = choice.thread } ∷ onward_or_none go rest) is;
      turns = sym (ap (λ last. last.turns) same);
      policy = sym (ap (λ last. last.policy) same);
    }

-- the moments from a course on are that of its next turn and those from there on
pub record Goes {S : Type 0} (rest most : ℕ) (system : System S) (listed : List ℕ) (course next : Course S) : Type 0 where
  pub choice : Choice
  pub is : choose listed course.policy (system.enabled course.state) ≡ Some choice
  pub moments : moments_from most system listed course
      ≡ record { before = course; thread = choice.thread } ∷ moments_from rest system listed next
  pub turns : next.turns ≡ course.turns ++ choice.thread ∷ []
  pub policy : next.policy ≡ choice.next

pub moments-onward : {S : Type 0} (most rest : ℕ) (system : System S) (listed : List ℕ) (course next : Course S) →
    most ≡ rest + 1 →
    advanced system listed course ≡ Onward next → Goes rest most system listed course next
unfolding moments_from advanced
moments-onward zero rest system listed course next count is = absurd (omega arith)
moments-onward (suc most) rest system listed course next count is =
    let same : rest ≡ most = omega arith in
    let done = turned (moments_from most system listed) system course next
    (choose listed course.policy (system.enabled course.state)) is in
    record {
      choice = done.choice;
      is = done.is;
      moments = rw same done.moments;
      turns = done.turns;
      policy = done.policy;
    }

-- the last turn is the last moment
over : {S : Type 0} (go : Course S → List (Moment S)) (system : System S) (course last : Course S)
    (outcome : Outcome) (chosen : Option Choice) →
    advanced_with system course chosen ≡ Over last outcome → length (moments_with go system course chosen) ≤ 1
over go system course last outcome None is = omega arith
over go system course last outcome (Some choice) is = rw is (omega arith)

pub moments-over : {S : Type 0} (most : ℕ) (system : System S) (listed : List ℕ) (course last : Course S)
    (outcome : Outcome) →
    advanced system listed course ≡ Over last outcome → length (moments_from most system listed course) ≤ 1
unfolding moments_from advanced
moments-over zero system listed course last outcome is = omega arith
moments-over (suc most) system listed course last outcome is =
    over (moments_from most system listed) system course last outcome
    (choose listed course.policy (system.enabled course.state)) is

onward-few : {S : Type 0} (most : ℕ) (go : Course S → List (Moment S)) (next : Advance S) →
    ((course : Course S) → length (go course) ≤ most) →
    length (onward_or_none go next) ≤ most
onward-few most go (Onward course) few = few course
onward-few most go (Over course outcome) few = omega arith

with-few : {S : Type 0} (most : ℕ) (go : Course S → List (Moment S)) (system : System S) (course : Course S)
    (chosen : Option Choice) →
    ((course : Course S) → length (go course) ≤ most) → length (moments_with go system course chosen) ≤ suc most
with-few most go system course None few = omega arith
with-few most go system course (Some choice) few =
    let after = onward-few most go (advanced_with system course (Some choice)) few in omega arith

pub moments-few : {S : Type 0} (most : ℕ) (system : System S) (listed : List ℕ) (course : Course S) →
    length (moments_from most system listed course) ≤ most
unfolding moments_from
moments-few zero system listed course = omega arith
moments-few (suc most) system listed course =
    with-few most (moments_from most system listed) system course
    (choose listed course.policy (system.enabled course.state)) (moments-few most system listed)

-- where a thread is chosen, its turn is the first moment
pub moments-chosen : {S : Type 0} (most rest : ℕ) (system : System S) (listed : List ℕ) (course : Course S)
    (choice : Choice) →
    most ≡ rest + 1 → choose listed course.policy (system.enabled course.state) ≡ Some choice →
    moments_from most system listed course
    ≡ record { before = course; thread = choice.thread }
    ∷ onward_or_none (moments_from rest system listed) (advanced_with system course (Some choice))
unfolding moments_from
moments-chosen zero rest system listed course choice count is = absurd (omega arith)
moments-chosen (suc most) rest system listed course choice count is =
    let same : rest ≡ most = omega arith in rw (same, is) refl

pub moments-none : {S : Type 0} (most : ℕ) (system : System S) (listed : List ℕ) (course : Course S) →
    choose listed course.policy (system.enabled course.state) ≡ None → moments_from most system listed course ≡ []
unfolding moments_from
moments-none zero system listed course is = refl
moments-none (suc most) system listed course is = rw is refl

-- a turn that is chosen is the same whatever the chooser is afterwards
pub moments-chooser : {S : Type 0} (go : Course S → List (Moment S)) (system : System S) (before after : Course S)
    (policy : Policy) (choice : Choice) →
    after ≡ record before { policy = policy } →
    ◌≡◌ {A = List (Moment S)}
    (record { before = before; thread = choice.thread } ∷ onward_or_none go (advanced_with system before (Some choice)))
    (record { before = record after { policy = before.policy }; thread = choice.thread }
    ∷ onward_or_none go (advanced_with system after (Some choice)))
moments-chooser go system before after policy choice same = rw same refl

pub moments-spent : {S : Type 0} (most : ℕ) (system : System S) (listed : List ℕ) (course : Course S) → most ≡ 0 →
    moments_from most system listed course ≡ []
unfolding moments_from
moments-spent zero system listed course none = refl
moments-spent (suc most) system listed course none = absurd (omega arith)
