-- What holds of every hold, whatever the module, the race and the recorded turns: the held thread waits, and each way
-- in which the hold ends has its cause.
use Rattle.std.specs.Prelude.{◌≡◌, ◌≢◌, ℕ, ◌<◌, true, List, [], ◌∷◌, ◌++◌, All, length, slice_get, Some}
use Rattle.machine_model.specs.declared.mode.Mode.TheVariants.{Hold}
use Rattle.run_types.specs.declared.race.Race.{Race}
use Rattle.run_types.specs.declared.run.Outcome.TheVariants.{Exit}
use Rattle.run_types.specs.declared.run.Reason.TheVariants.{Stuck, Repeats, Ended, Diverged}
use Rattle.machine_model.specs.declared.access.Access.{Access}
use Rattle.machine_model.specs.Access.{overlaps}
use Rattle.run_types.specs.Site.{is_site}
use Rattle.machine_model.specs.Hold.{Held, held_from}
use Rattle.machine_model.specs.Hold.Held.{Reordered, NotEnforced, RunOver}
use Rattle.machine_model.specs.Moment.{Moment, access_at}
use Rattle.machine_model.specs.Policy.{Choice, choose}
use Rattle.machine_model.specs.Repeat.{Snapshot, earlier_turn, same_snapshot, snapshot_of}
use Rattle.machine_model.specs.Run.{Advance, Course, advanced, advanced_with}
use Rattle.machine_model.specs.Run.Advance.{Onward, Over}
use Rattle.machine_model.specs.System.{System}

-- the turns up to where a hold ends
abbrev pub turns_of_hold : {S : Type 0} → Held S → List ℕ
turns_of_hold (Reordered past course) = course.turns
turns_of_hold (NotEnforced reason course) = course.turns
turns_of_hold (RunOver run) = run.turns

-- the held thread takes no turn in the hold
abbrev pub HeldThreadWaits : {S : Type 0} → System S → Type 0
HeldThreadWaits {S} system =
    (most : ℕ) (listed : List ℕ) (race : Race) (first : Access) (past : List (Snapshot S)) (course : Course S) →
    course.policy.mode ≡ Hold race.t1 →
    (added : List ℕ) × (turns_of_hold (held_from most system listed race first past course) ≡ course.turns ++ added)
    × All (λ thread. thread ≢ race.t1) added

-- the hold comes from a course to another, by turns that its chooser picks and after which the run goes on. Beside
-- each course stand the snapshots after all turns so far
pub data Comes {S : Type 0} (system : System S) (listed : List ℕ) (snapshots : List (Snapshot S)) (there : Course S) : List (Snapshot S) → Course S → Type 0 where
  Here : Comes system listed snapshots there snapshots there
  Later : (past : List (Snapshot S)) (course next : Course S) → advanced system listed course ≡ Onward next →
      Comes system listed snapshots there (past ++ snapshot_of next ∷ []) next →
      Comes system listed snapshots there past course

-- the hold that begins at a course came to another
pub record CameTo {S : Type 0} (system : System S) (listed : List ℕ) (past : List (Snapshot S)) (course there : Course S) : Type 0 where
  pub snapshots : List (Snapshot S)
  pub comes : Comes system listed snapshots there past course

-- a turn of that hold, which leads to this
pub record HoldTurn {S : Type 0} (system : System S) (listed : List ℕ) (past : List (Snapshot S)) (course : Course S) (advance : Advance S) : Type 0 where
  pub before : Course S
  pub came : CameTo system listed past course before
  pub choice : Choice
  pub chosen : choose listed before.policy (system.enabled before.state) ≡ Some choice
  pub leads : advanced_with system before (Some choice) ≡ advance

-- a turn of the race's second thread that does the second access, which overlaps the first
pub record DoesSecond {S : Type 0} (system : System S) (race : Race) (first : Access) (moment : Moment S) : Type 0 where
  pub thread : moment.thread ≡ race.t2
  pub access : Access
  pub is_done : access_at system moment ≡ Some access
  pub at_site : is_site access.site race.s2 ≡ true
  pub overlap : overlaps access first ≡ true

-- its last turn did the race's second access, and its snapshot is the last one
pub record DidSecond {S : Type 0} (system : System S) (listed : List ℕ) (race : Race) (first : Access) (past snapshots : List (Snapshot S)) (course after : Course S) : Type 0 where
  pub last : HoldTurn system listed past course (Onward after)
  pub does : DoesSecond system race first (record { before = last.before; thread = last.choice.thread })
  pub noted : snapshots ≡ last.came.snapshots ++ snapshot_of after ∷ []

-- its last turn left what the earlier turn left with which it is compared
pub record DidRepeat {S : Type 0} (system : System S) (listed : List ℕ) (past : List (Snapshot S)) (course after : Course S) : Type 0 where
  pub last : HoldTurn system listed past course (Onward after)
  pub compared : 1 < length last.came.snapshots
  pub earlier : Snapshot S
  pub is_earlier : slice_get last.came.snapshots (earlier_turn (length last.came.snapshots)) ≡ Some earlier
  pub same : same_snapshot system earlier (snapshot_of after) ≡ true

-- why the hold ended as it did; of a run that is over the outcome tells
abbrev pub HasCause : {S : Type 0} → System S → List ℕ → Race → Access → List (Snapshot S) → Course S → Held S → Type 0
HasCause system listed race first past course (Reordered snapshots after) =
    DidSecond system listed race first past snapshots course after
-- each thread that is enabled is the held one
HasCause system listed race first past course (NotEnforced Stuck after) =
    CameTo system listed past course after
    × (course.policy.mode ≡ Hold race.t1 → All (λ thread. thread ≡ race.t1) (system.enabled after.state))
-- the second thread has ended
HasCause system listed race first past course (NotEnforced Diverged after) =
    CameTo system listed past course after × (system.ended after.state race.t2 ≡ true)
HasCause system listed race first past course (NotEnforced Repeats after) =
    DidRepeat system listed past course after
-- the last turn ended the process
HasCause system listed race first past course (NotEnforced Ended after) =
    (status : ℕ) × HoldTurn system listed past course (Over after (Exit status))
HasCause system listed race first past course (RunOver run) = Unit {0}

abbrev pub EndsHaveCauses : {S : Type 0} → System S → Type 0
EndsHaveCauses {S} system =
    (most : ℕ) (listed : List ℕ) (race : Race) (first : Access) (past : List (Snapshot S)) (course : Course S) →
    HasCause system listed race first past course (held_from most system listed race first past course)
