-- What the laws of runs, holds and jobs take of a system: what a turn costs, that steps to spare change nothing of
-- it, and that a thread which waits to do an access is left to do it.
use Rattle.std.specs.Prelude.{◌≡◌, ◌≢◌, ℕ, ◌+◌, ◌≤◌, [], Contains, length, Some}
use Rattle.std.specs.List.Sorted.{IsStrictlyIncreasing}
use Rattle.machine_model.specs.declared.access.Access.{Access}
use Rattle.run_types.specs.declared.run.TurnEnd.{TurnEnd}
use Rattle.run_types.specs.declared.run.TurnEnd.TheVariants as ends
use Rattle.machine_model.specs.Access.{access_of}
use Rattle.machine_model.specs.System.{System}
use Rattle.machine_model.specs.Turn.{Turned}

-- what the end of a turn has paid for the turn itself
abbrev pub price_of : TurnEnd → ℕ
price_of ends.Going = 1
price_of (ends.Exit status) = 0
price_of (ends.Trap trap site) = 1
price_of ends.Spent = 0

-- the output only grows, and its items, the steps that are left and the turn itself are paid from what was left
pub record Pays {S : Type 0} (system : System S) (before : S) (left : ℕ) (turned : Turned S) : Type 0 where
  pub grows : length (system.output before) ≤ length (system.output turned.after)
  pub pays : length (system.output turned.after) + turned.left + price_of turned.end ≤ length (system.output before) + left

-- with so many more steps left
abbrev pub richer : {S : Type 0} → ℕ → Turned S → Turned S
richer more turned = record turned { left = turned.left + more }

-- the thread may take a turn, and waits to do this access
pub record MayDo {S : Type 0} (system : System S) (state : S) (thread : ℕ) (access : Access) : Type 0 where
  pub may_run : Contains (system.enabled state) thread
  pub waits : access_of (system.pending state thread) ≡ Some access

pub record IsSystem {S : Type 0} (system : System S) : Type 0 where
  -- a run begins with no output
  pub silent : system.output system.start ≡ []
  -- the threads that may take a turn rise
  pub rises : (state : S) → IsStrictlyIncreasing (system.enabled state)
  -- a turn costs at least 1, or is cut
  pub costs : (state : S) (thread left : ℕ) → Pays system state left (system.turn state thread left)
  -- with more steps a turn that was not cut is the same
  pub lasts : (state : S) (thread more left : ℕ) →
      (system.turn state thread left).end ≢ ends.Spent →
      system.turn state thread (left + more) ≡ richer more (system.turn state thread left)
  -- the turn of another thread leaves it so
  pub keeps : (state : S) (thread other left : ℕ) (access : Access) → thread ≢ other →
      MayDo system state thread access → MayDo system (system.turn state other left).after thread access
