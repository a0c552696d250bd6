-- What a hold is, by what its turns lead to.
use Rattle.std.proofs.Common.{◌≡◌, ℕ, zero, suc, Bool, true, false, cond, List, ◌∷◌, [], ◌++◌, Option, Some, None, refl}
use Rattle.machine_model.specs.declared.access.Access.{Access}
use Rattle.run_types.specs.declared.race.Race.{Race}
use Rattle.run_types.specs.declared.run.Outcome.{Outcome}
use Rattle.run_types.specs.declared.run.Outcome.TheVariants as outcomes
use Rattle.run_types.specs.declared.run.Reason.TheVariants.{Stuck, Repeats, Diverged}
use Rattle.run_types.specs.declared.run.TurnEnd.{TurnEnd}
use Rattle.run_types.specs.declared.run.TurnEnd.TheVariants as ends
use Rattle.machine_model.specs.Hold.{Held, held_after, held_from, held_over, held_with}
use Rattle.machine_model.specs.Hold.Held.{Reordered, NotEnforced, RunOver}
use Rattle.machine_model.specs.Policy.{Choice, choose}
use Rattle.machine_model.specs.Reach.{does_second}
use Rattle.machine_model.specs.Repeat.{Snapshot, repeats, snapshot_of}
use Rattle.machine_model.specs.Run.{Advance, Course, advanced_by, advanced_with, after_turn, concluded}
use Rattle.machine_model.specs.Run.Advance.{Onward, Over}
use Rattle.machine_model.specs.System.{System}

-- a turn that was chosen leads from a course to the next
pub record IsTurn {S : Type 0} (system : System S) (listed : List ℕ) (course : Course S) (choice : Choice) (next : Course S) : Type 0 where
  pub chosen : choose listed course.policy (system.enabled course.state) ≡ Some choice
  pub next_is : next ≡ after_turn course choice (system.turn course.state choice.thread course.left)
  pub turns : next.turns ≡ course.turns ++ choice.thread ∷ []
  pub policy : next.policy ≡ choice.next

-- and this is what it leads to
abbrev pub LeadsTo : {S : Type 0} → System S → Course S → Choice → Advance S → Type 0
LeadsTo system course choice advance = advanced_with system course (Some choice) ≡ advance

-- what holds of each way in which a hold ends, holds of a hold of at most so many turns
pub record EachEnd {S : Type 0} (system : System S) (listed : List ℕ) (race : Race) (first : Access) (P : ℕ → List (Snapshot S) → Course S → Held S → Type 0) : Type 0 where
  pub spent : (past : List (Snapshot S)) (course : Course S) → P 0 past course (RunOver (concluded system course outcomes.Spent))
  pub diverged : (most : ℕ) (past : List (Snapshot S)) (course : Course S) →
      system.ended course.state race.t2 ≡ true → P most past course (NotEnforced Diverged course)
  pub stuck : (most : ℕ) (past : List (Snapshot S)) (course : Course S) →
      choose listed course.policy (system.enabled course.state) ≡ None → P most past course (NotEnforced Stuck course)
  pub over : (most : ℕ) (past : List (Snapshot S)) (course next : Course S) (choice : Choice) (outcome : Outcome) →
      IsTurn system listed course choice next → LeadsTo system course choice (Over next outcome) →
      P most past course (held_over system next outcome)
  pub done : (most : ℕ) (past : List (Snapshot S)) (course next : Course S) (choice : Choice) →
      IsTurn system listed course choice next →
      LeadsTo system course choice (Onward next) →
      does_second system race first (record { before = course; thread = choice.thread }) ≡ true →
      P most past course (Reordered (past ++ snapshot_of next ∷ []) next)
  pub repeated : (most : ℕ) (past : List (Snapshot S)) (course next : Course S) (choice : Choice) →
      IsTurn system listed course choice next →
      LeadsTo system course choice (Onward next) → repeats system past (snapshot_of next) ≡ true →
      P most past course (NotEnforced Repeats next)
  pub onward : (most : ℕ) (past : List (Snapshot S)) (course next : Course S) (choice : Choice) (ending : Held S) →
      IsTurn system listed course choice next → LeadsTo system course choice (Onward next) →
      P most (past ++ snapshot_of next ∷ []) next ending → P (suc most) past course ending

ends-after : {S : Type 0} (system : System S) (listed : List ℕ) (race : Race) (first : Access)
    (P : ℕ → List (Snapshot S) → Course S → Held S → Type 0) → EachEnd system listed race first P → (most : ℕ)
    (go : List (Snapshot S) → Course S → Held S) →
    ((past : List (Snapshot S)) (course : Course S) → P most past course (go past course)) →
    (past : List (Snapshot S)) (course next : Course S) (choice : Choice) (done again : Bool) (end : TurnEnd) →
    IsTurn system listed course choice next → LeadsTo system course choice (advanced_by choice.thread next end) →
    does_second system race first (record { before = course; thread = choice.thread }) ≡ done →
    repeats system past (snapshot_of next) ≡ again →
    P (suc most) past course (held_after system go past done (advanced_by choice.thread next end))
ends-after system listed race first P each most go rest past course next choice true again ends.Going is leads does repeat =
    each.done (suc most) past course next choice is leads does
ends-after system listed race first P each most go rest past course next choice false true ends.Going is leads does repeat =
    rw repeat (each.repeated (suc most) past course next choice is leads repeat)
ends-after system listed race first P each most go rest past course next choice false false ends.Going is leads does repeat =
    let later = past ++ snapshot_of next ∷ [] in
    let on = each.onward most past course next choice (go later next) is leads (rest later next) in
    rw repeat on
ends-after system listed race first P each most go rest past course next choice done again (ends.Exit status) is leads does repeat =
    each.over (suc most) past course next choice (outcomes.Exit status) is leads
ends-after system listed race first P each most go rest past course next choice done again (ends.Trap trap site) is leads does repeat =
    each.over (suc most) past course next choice (outcomes.Trap trap choice.thread site) is leads
ends-after system listed race first P each most go rest past course next choice done again ends.Spent is leads does repeat =
    each.over (suc most) past course next choice outcomes.Spent is leads

ends-with : {S : Type 0} (system : System S) (listed : List ℕ) (race : Race) (first : Access)
    (P : ℕ → List (Snapshot S) → Course S → Held S → Type 0) → EachEnd system listed race first P → (most : ℕ)
    (go : List (Snapshot S) → Course S → Held S) →
    ((past : List (Snapshot S)) (course : Course S) → P most past course (go past course)) →
    (past : List (Snapshot S)) (course : Course S) (choice : Option Choice) →
    choose listed course.policy (system.enabled course.state) ≡ choice →
    P (suc most) past course (held_with go system race first past course choice)
ends-with system listed race first P each most go rest past course None chosen = each.stuck (suc most) past course chosen
ends-with system listed race first P each most go rest past course (Some choice) chosen =
    let turned = system.turn course.state choice.thread course.left in
    let next = after_turn course choice turned in
    ends-after system listed race first P each most go rest past course next choice
    (does_second system race first (record { before = course; thread = choice.thread })) (repeats system past (snapshot_of next))
    turned.end (record { chosen = chosen; next_is = refl; turns = refl; policy = refl }) refl refl refl

ends-unless : {S : Type 0} (P : Held S → Type 0) (test : Bool) (ended other : Held S) → (test ≡ true → P ended) →
    P other →
    P (cond test ended other)
ends-unless P true ended other on_ended on_other = on_ended refl
ends-unless P false ended other on_ended on_other = on_other

pub each-hold : {S : Type 0} (system : System S) (listed : List ℕ) (race : Race) (first : Access)
    (P : ℕ → List (Snapshot S) → Course S → Held S → Type 0) → EachEnd system listed race first P → (most : ℕ)
    (past : List (Snapshot S)) (course : Course S) → P most past course (held_from most system listed race first past course)
unfolding held_from
each-hold system listed race first P each zero past course = each.spent past course
each-hold system listed race first P each (suc most) past course =
    ends-unless (P (suc most) past course) (system.ended course.state race.t2) (NotEnforced Diverged course)
    (held_with (held_from most system listed race first) system race first past course
    (choose listed course.policy (system.enabled course.state)))
    (each.diverged (suc most) past course)
    (ends-with system listed race first P each most (held_from most system listed race first)
    (each-hold system listed race first P each most) past course
    (choose listed course.policy (system.enabled course.state)) refl)
