-- What every hold has: the held thread waits, and each way of ending has its cause.
use Rattle.std.proofs.Common.{◌≡◌, ◌≢◌, ℕ, Bool, true, false, ◌&&◌, eqb, ltb, List, ◌∷◌, [], ◌++◌, length, Option, Some, None, All, refl, sym, ap, ◌∙◌, append_assoc}
use Rattle.std.specs.Prelude.{Contains, slice_get}
use Rattle.std.proofs.lemmas.Bool.{and_parts, eqb-false, eqb-true, ltb-true}
use Rattle.std.proofs.lemmas.List.{append-nil}
use Rattle.std.proofs.lemmas.List.Elements.{All-contains_itself, All-cons, All-head, All-nil, All-tail}
use Rattle.machine_model.specs.declared.mode.Mode.TheVariants.{Hold}
use Rattle.run_types.specs.declared.race.Race.{Race}
use Rattle.run_types.specs.declared.run.Outcome.{Outcome}
use Rattle.run_types.specs.declared.run.Outcome.TheVariants as outcomes
use Rattle.run_types.specs.declared.run.Reason.TheVariants.{Stuck, Repeats, Ended, Diverged}
use Rattle.machine_model.specs.declared.access.Access.{Access}
use Rattle.machine_model.specs.Access.{overlaps}
use Rattle.run_types.specs.Site.{is_site}
use Rattle.machine_model.specs.Hold.{Held, held_over}
use Rattle.machine_model.specs.Hold.Held.{Reordered, NotEnforced, RunOver}
use Rattle.machine_laws.specs.HoldLaws.{CameTo, DidRepeat, DoesSecond, EndsHaveCauses, HasCause, HeldThreadWaits, HoldTurn, turns_of_hold}
use Rattle.machine_laws.specs.HoldLaws.Comes.{Here, Later}
use Rattle.machine_model.specs.Moment.{Moment, access_at}
use Rattle.machine_model.specs.Policy.{Choice, choose}
use Rattle.machine_model.specs.PolicyLaws.{mode_after}
use Rattle.machine_model.specs.Reach.{does_second, is_second}
use Rattle.machine_model.specs.Repeat.{Snapshot, earlier_turn, is_repeat, repeats, snapshot_of}
use Rattle.machine_model.specs.Run.{Advance, Course, advanced, concluded}
use Rattle.machine_model.specs.Run.Advance.{Onward, Over}
use Rattle.machine_model.specs.System.{System}
use Rattle.machine_laws.proofs.HoldCases.{IsTurn, LeadsTo, each-hold}
use Rattle.machine_model.proofs.Policies.{choice-enabled, choice-is_last, choice-unless_none}

-- a hold adds turns, none of which is the held thread's
abbrev Adds : {S : Type 0} → ℕ → List ℕ → Held S → Type 0
Adds held turns ending =
    (added : List ℕ) × (turns_of_hold ending ≡ turns ++ added) × All (λ thread. thread ≢ held) added

adds-none : {S : Type 0} (held : ℕ) (turns : List ℕ) (ending : Held S) → turns_of_hold ending ≡ turns →
    Adds held turns ending
adds-none held turns ending is = ([], is ∙ sym (append-nil turns), All-nil (λ thread. thread ≢ held))

adds-more : {S : Type 0} (held thread : ℕ) (turns : List ℕ) (ending : Held S) → thread ≢ held →
    Adds held (turns ++ thread ∷ []) ending → Adds held turns ending
adds-more held thread turns ending other adds = (
  thread ∷ adds.0,
  adds.1 ∙ append_assoc turns (thread ∷ []) adds.0,
  All-cons (λ one. one ≢ held) thread adds.0 other adds.2,
)

over-turns : {S : Type 0} (system : System S) (next : Course S) (outcome : Outcome) →
    turns_of_hold (held_over system next outcome) ≡ next.turns
over-turns system next (outcomes.Exit status) = refl
over-turns system next (outcomes.Trap trap thread site) = refl
over-turns system next outcomes.Deadlock = refl
over-turns system next (outcomes.Repeats turn earlier) = refl
over-turns system next outcomes.Spent = refl

-- the turn that was chosen while a thread is held is another's, and the thread is still held
pub other-thread : {S : Type 0} (system : System S) (listed : List ℕ) (held : ℕ) (course next : Course S)
    (choice : Choice) →
    IsTurn system listed course choice next → course.policy.mode ≡ Hold held → choice.thread ≢ held
other-thread system listed held course next choice is mode =
    rw mode at (choice-enabled listed course.policy (system.enabled course.state) choice is.chosen).1

pub still-held : {S : Type 0} (system : System S) (listed : List ℕ) (held : ℕ) (course next : Course S)
    (choice : Choice) →
    IsTurn system listed course choice next → course.policy.mode ≡ Hold held → next.policy.mode ≡ Hold held
still-held system listed held course next choice is mode =
    ap (λ policy. policy.mode) is.policy
    ∙ (choice-is_last listed course.policy (system.enabled course.state) choice is.chosen).1
    ∙ ap mode_after mode

last-turn : {S : Type 0} (system : System S) (listed : List ℕ) (held : ℕ) (course next : Course S)
    (choice : Choice) (ending : Held S) →
    IsTurn system listed course choice next → turns_of_hold ending ≡ next.turns → course.policy.mode ≡ Hold held →
    Adds held course.turns ending
last-turn system listed held course next choice ending is turns mode =
    adds-more held choice.thread course.turns ending (other-thread system listed held course next choice is mode)
    (adds-none held (course.turns ++ choice.thread ∷ []) ending (turns ∙ is.turns))

pub held-waits : {S : Type 0} (system : System S) → HeldThreadWaits system
held-waits {S} system most listed race first past course =
    each-hold system listed race first
    (λ (most : ℕ) (past : List (Snapshot S)) (course : Course S) (ending : Held S). course.policy.mode ≡ Hold race.t1 → Adds race.t1 course.turns ending)
    (record {
      spent = λ past course mode. adds-none {S = S} race.t1 course.turns (RunOver (concluded system course outcomes.Spent)) refl;
      diverged = λ most past course ended mode. adds-none {S = S} race.t1 course.turns (NotEnforced Diverged course) refl;
      stuck = λ most past course none mode. adds-none {S = S} race.t1 course.turns (NotEnforced Stuck course) refl;
      over = λ most past course next choice outcome is leads.
          last-turn system listed race.t1 course next choice (held_over system next outcome) is (over-turns system next outcome);
      done = λ most past course next choice is leads does.
          last-turn system listed race.t1 course next choice (Reordered (past ++ snapshot_of next ∷ []) next) is refl;
      repeated = λ most past course next choice is leads again.
          last-turn system listed race.t1 course next choice (NotEnforced Repeats next) is refl;
      onward = λ most past course next choice ending is leads rest mode.
          adds-more race.t1 choice.thread course.turns ending (other-thread system listed race.t1 course next choice is mode)
          (rw is.turns at rest (still-held system listed race.t1 course next choice is mode));
    }) most past course

-- a number that is not another than the held one is that one
not-other : (thread held : ℕ) → ¬ (thread ≢ held) → thread ≡ held
not-other thread held never = go (eqb thread held) refl
  where
    go : (same : Bool) → eqb thread held ≡ same → thread ≡ held
    go true is = eqb-true thread held is
    go false is = absurd (never (eqb-false thread held is))

All-implied : (P Q : ℕ → Type 0) → ((thread : ℕ) → P thread → Q thread) → (threads : List ℕ) → All P threads → All Q threads
All-implied P Q implies [] all = All-nil Q
All-implied P Q implies (thread ∷ threads) all =
    All-cons Q thread threads (implies thread (All-head P thread threads all))
    (All-implied P Q implies threads (All-tail P thread threads all))

-- where none may be chosen, each enabled thread is the held one
all-held : {S : Type 0} (system : System S) (listed : List ℕ) (held : ℕ) (course : Course S) →
    choose listed course.policy (system.enabled course.state) ≡ None → course.policy.mode ≡ Hold held →
    All (λ thread. thread ≡ held) (system.enabled course.state)
all-held system listed held course none mode =
    let threads = system.enabled course.state in
    All-implied (Contains threads) (λ thread. thread ≡ held)
    (λ thread among. not-other thread held
    (rw mode at (choice-unless_none listed course.policy threads thread none among)))
    threads (All-contains_itself threads)

advances : {S : Type 0} (system : System S) (listed : List ℕ) (course next : Course S) (choice : Choice)
    (advance : Advance S) →
    IsTurn system listed course choice next → LeadsTo system course choice advance → advanced system listed course ≡ advance
unfolding advanced
advances system listed course next choice advance is leads = rw is.chosen leads

abbrev came-at_once : {S : Type 0} (system : System S) (listed : List ℕ) (past : List (Snapshot S))
    (course : Course S) →
    CameTo system listed past course course
came-at_once system listed past course = record { snapshots = past; comes = Here }

-- the first turn of a hold, and what the hold after it gives
module _ {S : Type 0} (system : System S) (listed : List ℕ) (past : List (Snapshot S)) (course next : Course S) (choice : Choice) (is : IsTurn system listed course choice next) where
  abbrev later-came : (after : Course S) → LeadsTo system course choice (Onward next) →
      CameTo system listed (past ++ snapshot_of next ∷ []) next after → CameTo system listed past course after
  later-came after leads came = record {
    snapshots = came.snapshots;
    comes = Later past course next (advances system listed course next choice (Onward next) is leads) came.comes;
  }

  abbrev first-turn : (advance : Advance S) → LeadsTo system course choice advance →
      HoldTurn system listed past course advance
  first-turn advance leads = record {
    before = course;
    came = came-at_once system listed past course;
    choice = choice;
    chosen = is.chosen;
    leads = leads;
  }

  abbrev later-turn : (advance : Advance S) → LeadsTo system course choice (Onward next) →
      HoldTurn system listed (past ++ snapshot_of next ∷ []) next advance → HoldTurn system listed past course advance
  later-turn advance leads turn = record {
    before = turn.before;
    came = later-came turn.before leads turn.came;
    choice = turn.choice;
    chosen = turn.chosen;
    leads = turn.leads;
  }

  repeated-cause : LeadsTo system course choice (Onward next) → repeats system past (snapshot_of next) ≡ true →
      DidRepeat system listed past course next
  unfolding repeats
  repeated-cause leads again = go (ltb 1 (length past)) (slice_get past (earlier_turn (length past))) refl refl again
    where
      go : (long : Bool) (found : Option (Snapshot S)) → ltb 1 (length past) ≡ long →
          slice_get past (earlier_turn (length past)) ≡ found →
          (long && is_repeat system (snapshot_of next) found) ≡ true →
          DidRepeat system listed past course next
      go false found short is again = absurd (let h : ⊥ = cc in h)
      go true None long is again = absurd (let h : ⊥ = cc in h)
      go true (Some earlier) long is again = record {
        last = first-turn (Onward next) leads;
        compared = ltb-true 1 (length past) long;
        earlier = earlier;
        is_earlier = is;
        same = again;
      }

  over-cause : (race : Race) (first : Access) (outcome : Outcome) → LeadsTo system course choice (Over next outcome) →
      HasCause system listed race first past course (held_over system next outcome)
  over-cause race first (outcomes.Exit status) leads = (status, first-turn (Over next (outcomes.Exit status)) leads)
  over-cause race first (outcomes.Trap trap thread site) leads = tt
  over-cause race first outcomes.Deadlock leads = tt
  over-cause race first (outcomes.Repeats turn earlier) leads = tt
  over-cause race first outcomes.Spent leads = tt

  onward-cause : (race : Race) (first : Access) (ending : Held S) → LeadsTo system course choice (Onward next) →
      HasCause system listed race first (past ++ snapshot_of next ∷ []) next ending →
      HasCause system listed race first past course ending
  onward-cause race first (Reordered snapshots after) leads cause = record {
    last = later-turn (Onward after) leads cause.last;
    does = cause.does;
    noted = cause.noted;
  }
  onward-cause race first (NotEnforced Stuck after) leads cause =
      (later-came after leads cause.0, λ mode. cause.1 (still-held system listed race.t1 course next choice is mode))
  onward-cause race first (NotEnforced Diverged after) leads cause = (later-came after leads cause.0, cause.1)
  onward-cause race first (NotEnforced Repeats after) leads cause = record {
    last = later-turn (Onward after) leads cause.last;
    compared = cause.compared;
    earlier = cause.earlier;
    is_earlier = cause.is_earlier;
    same = cause.same;
  }
  onward-cause race first (NotEnforced Ended after) leads cause =
      (cause.0, later-turn (Over after (outcomes.Exit cause.0)) leads cause.1)
  onward-cause race first (RunOver run) leads cause = tt

-- the turn that ends a hold does the second access
does-second : {S : Type 0} (system : System S) (race : Race) (first : Access) (moment : Moment S) →
    does_second system race first moment ≡ true → DoesSecond system race first moment
does-second {S} system race first moment does = go (access_at system moment) refl parts.1
  where
    parts : ((eqb moment.thread race.t2) ≡ true) × (is_second race first (access_at system moment) ≡ true)
    parts = and_parts (eqb moment.thread race.t2) (is_second race first (access_at system moment)) does

    go : (access : Option Access) → access_at system moment ≡ access → is_second race first access ≡ true →
        DoesSecond system race first moment
    go None is second = absurd (let h : ⊥ = cc in h)
    go (Some access) is second =
        let test = and_parts (is_site access.site race.s2) (overlaps access first) second in
        record {
          thread = eqb-true moment.thread race.t2 parts.0;
          access = access;
          is_done = is;
          at_site = test.0;
          overlap = test.1;
        }

pub ends-have_causes : {S : Type 0} (system : System S) → EndsHaveCauses system
ends-have_causes system most listed race first past course =
    each-hold system listed race first (λ most past course ending. HasCause system listed race first past course ending)
    (record {
      spent = λ past course. tt;
      diverged = λ most past course ended. (came-at_once system listed past course, ended);
      stuck = λ most past course none.
          (came-at_once system listed past course, all-held system listed race.t1 course none);
      over = λ most past course next choice outcome is leads.
          over-cause system listed past course next choice is race first outcome leads;
      done = λ most past course next choice is leads does. record {
        last = first-turn system listed past course next choice is (Onward next) leads;
        does = does-second system race first (record { before = course; thread = choice.thread }) does;
        noted = refl;
      };
      repeated = λ most past course next choice is leads again.
          repeated-cause system listed past course next choice is leads again;
      onward = λ most past course next choice ending is leads rest.
          onward-cause system listed past course next choice is race first ending leads rest;
    }) most past course
