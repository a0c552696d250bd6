-- A turn or a run that was not cut is the same under a larger budget, but for the steps that are left.
use Rattle.std.proofs.Common.{◌≡◌, ◌≢◌, ℕ, zero, suc, ◌+◌, ◌-◌, ◌≤◌, Bool, true, false, cond, List, ◌++◌, [], Option, Some, None, refl, ap, ◌∙◌, arith}
use Rattle.std.specs.Prelude.{slice_get}
use Rattle.std.proofs.lemmas.Bool.{le-ltb}
use Rattle.ir_types.specs.declared.instruction.Site.{Site}
use Rattle.run_types.specs.declared.run.Outcome.TheVariants as outcomes
use Rattle.run_types.specs.declared.run.Run.{Run}
use Rattle.run_types.specs.declared.run.TurnEnd.{TurnEnd}
use Rattle.run_types.specs.declared.run.TurnEnd.TheVariants as ends
use Rattle.machine_model.specs.declared.state.State.{State}
use Rattle.machine_model.specs.declared.state.Thread.{Thread}
use Rattle.machine_model.specs.Effect.{Effect, Footprint}
use Rattle.machine_model.specs.Effect.Effect.{Done, Pauses, Exits, Traps, Blocks, NoRow}
use Rattle.machine_model.specs.Operation.{footprint_of}
use Rattle.machine_model.specs.Run.{Advance, Course, advanced, advanced_with, advanced_by, after_turn, first_course, onward_or_concluded, run_from, run_of}
use Rattle.machine_model.specs.Run.Advance.{Onward, Over}
use Rattle.machine_model.specs.Policy.{Choice, choose}
use Rattle.machine_model.specs.Setting.{Setting}
use Rattle.machine_model.specs.System.{System}
use Rattle.machine_model.specs.SystemLaws.{IsSystem, richer}
use Rattle.machine_model.specs.Thread.{has_ended}
use Rattle.machine_model.specs.Step.{Step, first_step, next_step}
use Rattle.machine_model.specs.Step.Step.{Waits, Does, Starts, Lacks}
use Rattle.machine_model.specs.Turn.{Turned, Move, afforded, charged, cost_of_effect, led_by, paid, rest_of_turn, rest_of, in_state, steps_within, steps_from, continued, turn, turn_of}
use Rattle.machine_model.specs.Turn.Move.{Leads, Stops}
use Rattle.machine_model.proofs.Payment.{each-afforded}

abbrev pub richer_move : {S : Type 0} → ℕ → Move S → Move S
richer_move more (Leads after left decided) = Leads after (left + more) decided
richer_move more (Stops turned) = Stops (richer more turned)

-- nothing was cut
abbrev pub IsWhole : {S : Type 0} → Move S → Type 0
IsWhole (Leads after left decided) = Unit {0}
IsWhole (Stops turned) = turned.end ≢ ends.Spent

-- with more steps the move is the same, unless it was cut
abbrev pub Lasts : {S : Type 0} → ℕ → Move S → Move S → Type 0
Lasts more move richer = IsWhole move → richer ≡ richer_move more move

led-lasts : {S : Type 0} (more : ℕ) (before : S) (rest : ℕ) (decided : List ℕ) (site : Site) (effect : Effect S) →
    Lasts more (led_by before rest decided site effect) (led_by before (rest + more) decided site effect)
led-lasts more before rest decided site (Done extra after) = λ whole. refl
led-lasts more before rest decided site (Pauses extra after) = λ whole. refl
led-lasts more before rest decided site (Exits extra status after) = λ whole. refl
led-lasts more before rest decided site (Traps trap) = λ whole. refl
led-lasts more before rest decided site Blocks = λ whole. absurd (whole refl)
led-lasts more before rest decided site NoRow = λ whole. absurd (whole refl)

-- where so much was left, more is
afforded-lasts : {S : Type 0} (more : ℕ) (before : S) (left : ℕ) (decided : List ℕ) (go : ℕ → Move S) (cost : Option ℕ) →
    ((rest : ℕ) → Lasts more (go rest) (go (rest + more))) →
    Lasts more (afforded before left decided go cost) (afforded before (left + more) decided go cost)
afforded-lasts {S} more before left decided go cost lasts =
    each-afforded (λ (move : Move S). Lasts more move (afforded before (left + more) decided go cost)) before left decided go cost
    (λ whole. absurd (whole refl))
    (λ price is room whole.
    rw (is, le-ltb (left + more) price (omega arith)) (ap go (let rests : left + more - price ≡ left - price + more = omega arith in rests) ∙ lasts (left - price) whole))

paid-lasts : {S : Type 0} (more : ℕ) (before : S) (left : ℕ) (decided : List ℕ) (step : Step S) →
    Lasts more (paid before left decided step) (paid before (left + more) decided step)
unfolding paid charged
paid-lasts more before left decided (Waits after addresses) = λ whole. refl
paid-lasts more before left decided (Does numbers site effect) =
    afforded-lasts more before left (decided ++ numbers) (λ rest. led_by before rest (decided ++ numbers) site effect)
    (cost_of_effect effect) (λ rest. led-lasts more before rest (decided ++ numbers) site effect)
paid-lasts more before left decided Starts =
    afforded-lasts more before left decided (λ rest. Leads before rest decided) (Some 1) (λ rest whole. refl)
paid-lasts more before left decided Lacks = λ whole. absurd (whole refl)

-- what a move leads to lasts where what it goes on with does
continued-lasts : {S : Type 0} (more : ℕ) (go other : S → ℕ → List ℕ → Turned S) (move richer_one : Move S) →
    Lasts more move richer_one →
    ((after : S) (left : ℕ) (decided : List ℕ) → (go after left decided).end ≢ ends.Spent →
    other after (left + more) decided ≡ richer more (go after left decided)) →
    (continued go move).end ≢ ends.Spent → continued other richer_one ≡ richer more (continued go move)
continued-lasts more go other (Leads after left decided) richer_one lasts on whole =
    rw (lasts tt) (on after left decided whole)
continued-lasts more go other (Stops turned) richer_one lasts on whole = rw (lasts whole) refl

steps_within-lasts : (setting : Setting) (number more : ℕ) (most most' : ℕ) (footprint : Footprint) (left : ℕ) (decided : List ℕ) →
    most ≤ most' → (steps_within most setting number footprint left decided).end ≢ ends.Spent →
    steps_within most' setting number footprint (left + more) decided ≡ richer more (steps_within most setting number footprint left decided)
unfolding steps_within
steps_within-lasts setting number more zero most' footprint left decided h whole = absurd (whole refl)
steps_within-lasts setting number more (suc most) zero footprint left decided h whole = absurd (omega arith)
steps_within-lasts setting number more (suc most) (suc most') footprint left decided h whole =
    continued-lasts more (steps_within most setting number) (steps_within most' setting number)
    (paid footprint left decided (next_step setting number footprint))
    (paid footprint (left + more) decided (next_step setting number footprint))
    (paid-lasts more footprint left decided (next_step setting number footprint))
    (λ after rest others. steps_within-lasts setting number more most most' after rest others (omega arith))
    whole

rest_of-lasts : (setting : Setting) (number more : ℕ) (state : State) (left : ℕ) (decided : List ℕ) (thread : Option Thread) →
    (rest_of setting number state left decided thread).end ≢ ends.Spent →
    rest_of setting number state (left + more) decided thread ≡ richer more (rest_of setting number state left decided thread)
rest_of-lasts setting number more state left decided None = λ whole. absurd (whole refl)
rest_of-lasts setting number more state left decided (Some thread) =
    go (has_ended thread)
  where
    on : ℕ → Turned State
    on rest = in_state state number (steps_from setting number (footprint_of state thread) rest decided)

    over : ℕ → Turned State
    over rest = record { after = state; left = rest; decided = decided; end = ends.Going }

    go : (has : Bool) → (cond has (over left) (on left)).end ≢ ends.Spent →
        cond has (over (left + more)) (on (left + more)) ≡ richer more (cond has (over left) (on left))
    go true whole = refl
    go false whole = ap (in_state state number)
        (steps_within-lasts setting number more (left + 1) (left + more + 1) (footprint_of state thread) left decided (omega arith) whole)

rest_of_turn-lasts : (setting : Setting) (number more : ℕ) (state : State) (left : ℕ) (decided : List ℕ) →
    (rest_of_turn setting number state left decided).end ≢ ends.Spent →
    rest_of_turn setting number state (left + more) decided ≡ richer more (rest_of_turn setting number state left decided)
unfolding rest_of_turn
rest_of_turn-lasts setting number more state left decided =
    rest_of-lasts setting number more state left decided (slice_get state.threads number)

turn_of-lasts : (setting : Setting) (state : State) (number more left : ℕ) (thread : Option Thread) →
    (turn_of setting state number left thread).end ≢ ends.Spent →
    turn_of setting state number (left + more) thread ≡ richer more (turn_of setting state number left thread)
turn_of-lasts setting state number more left None whole = absurd (whole refl)
turn_of-lasts setting state number more left (Some thread) whole =
    continued-lasts more (rest_of_turn setting number) (rest_of_turn setting number)
    (paid state left [] (first_step setting state number thread thread.pending))
    (paid state (left + more) [] (first_step setting state number thread thread.pending))
    (paid-lasts more state left [] (first_step setting state number thread thread.pending))
    (rest_of_turn-lasts setting number more) whole

-- a turn that was not cut is the same with more steps
pub turn-lasts : (setting : Setting) (state : State) (number more left : ℕ) →
    (turn setting state number left).end ≢ ends.Spent →
    turn setting state number (left + more) ≡ richer more (turn setting state number left)
unfolding turn
turn-lasts setting state number more left =
    turn_of-lasts setting state number more left (slice_get state.threads number)

abbrev richer_course : {S : Type 0} → ℕ → Course S → Course S
richer_course more course = record course { left = course.left + more }

-- the turn of a run that goes on, or ends otherwise than spent, was not cut
abbrev pub AdvanceIsWhole : {S : Type 0} → Advance S → Type 0
AdvanceIsWhole (Onward next) = Unit {0}
AdvanceIsWhole (Over last outcome) = outcome ≢ outcomes.Spent

advanced_by-whole : {S : Type 0} (thread : ℕ) (course : Course S) (end : TurnEnd) →
    AdvanceIsWhole (advanced_by thread course end) → end ≢ ends.Spent
advanced_by-whole thread course ends.Going whole = λ is. cc
advanced_by-whole thread course (ends.Exit status) whole = λ is. cc
advanced_by-whole thread course (ends.Trap trap site) whole = λ is. cc
advanced_by-whole thread course ends.Spent whole = λ is. whole refl

abbrev richer_advance : {S : Type 0} → ℕ → Advance S → Advance S
richer_advance more (Onward next) = Onward (richer_course more next)
richer_advance more (Over last outcome) = Over (richer_course more last) outcome

advanced_by-richer : {S : Type 0} (more : ℕ) (course : Course S) (choice : Choice) (turned : Turned S) →
    advanced_by choice.thread (after_turn (richer_course more course) choice (richer more turned)) turned.end
    ≡ richer_advance more (advanced_by choice.thread (after_turn course choice turned) turned.end)
advanced_by-richer more course choice turned = go turned.end
  where
    go : (end : TurnEnd) →
        advanced_by choice.thread (after_turn (richer_course more course) choice (richer more turned)) end
        ≡ richer_advance more (advanced_by choice.thread (after_turn course choice turned) end)
    go ends.Going = refl
    go (ends.Exit status) = refl
    go (ends.Trap trap site) = refl
    go ends.Spent = refl

advanced_with-lasts : {S : Type 0} (system : System S) (facts : IsSystem system) (more : ℕ) (course : Course S)
    (choice : Option Choice) →
    AdvanceIsWhole (advanced_with system course choice) →
    advanced_with system (richer_course more course) choice ≡ richer_advance more (advanced_with system course choice)
advanced_with-lasts system facts more course None whole = refl
advanced_with-lasts system facts more course (Some choice) whole =
    let lasts = facts.lasts course.state choice.thread more course.left
    (advanced_by-whole choice.thread _ _ whole) in
    rw lasts (advanced_by-richer more course choice (system.turn course.state choice.thread course.left))

advanced-lasts : {S : Type 0} (system : System S) (facts : IsSystem system) (listed : List ℕ) (more : ℕ)
    (course : Course S) →
    AdvanceIsWhole (advanced system listed course) →
    advanced system listed (richer_course more course) ≡ richer_advance more (advanced system listed course)
unfolding advanced
advanced-lasts system facts listed more course =
    advanced_with-lasts system facts more course (choose listed course.policy (system.enabled course.state))

-- a run that is not spent has no turn that was cut
onward-whole : {S : Type 0} (system : System S) (go : Course S → Run) (advance : Advance S) →
    (onward_or_concluded system go advance).outcome ≢ outcomes.Spent → AdvanceIsWhole advance
onward-whole system go (Onward next) whole = tt
onward-whole system go (Over last outcome) whole = whole

onward-lasts : {S : Type 0} (system : System S) (more : ℕ) (go other : Course S → Run) (advance : Advance S) →
    ((next : Course S) → (go next).outcome ≢ outcomes.Spent → other (richer_course more next) ≡ go next) →
    (onward_or_concluded system go advance).outcome ≢ outcomes.Spent →
    onward_or_concluded system other (richer_advance more advance) ≡ onward_or_concluded system go advance
onward-lasts system more go other (Onward next) on whole = on next whole
onward-lasts system more go other (Over last outcome) on whole = refl

run_from-lasts : {S : Type 0} (system : System S) (facts : IsSystem system) (listed : List ℕ) (more most most' : ℕ)
    (course : Course S) → most ≤ most' →
    (run_from most system listed course).outcome ≢ outcomes.Spent →
    run_from most' system listed (richer_course more course) ≡ run_from most system listed course
unfolding run_from
run_from-lasts system facts listed more zero most' course h whole = absurd (whole refl)
run_from-lasts system facts listed more (suc most) zero course h whole = absurd (omega arith)
run_from-lasts system facts listed more (suc most) (suc most') course h whole =
    let lasts = advanced-lasts system facts listed more course
    (onward-whole system (run_from most system listed) (advanced system listed course) whole) in
    rw lasts (onward-lasts system more (run_from most system listed) (run_from most' system listed)
    (advanced system listed course)
    (λ next. run_from-lasts system facts listed more most most' next (omega arith)) whole)

-- a run that is not spent is the run of every larger budget
pub run_of-lasts : {S : Type 0} (system : System S) (facts : IsSystem system) (listed : List ℕ) (steps more : ℕ) →
    steps ≤ more →
    (run_of system listed steps).outcome ≢ outcomes.Spent → run_of system listed more ≡ run_of system listed steps
unfolding run_of
run_of-lasts system facts listed steps more h whole =
    let sum : more ≡ steps + (more - steps) = omega arith in
    let lasts = run_from-lasts system facts listed (more - steps) (steps + 1) (more + 1) (first_course system steps) (omega arith) whole in
    ap (λ budget. run_from (more + 1) system listed (first_course system budget)) sum ∙ lasts
