-- The repeat test of a run: after a turn everything is as it was after an earlier turn, but for the output and the
-- counts of steps and turns. The earlier turn is the greatest power of two below the turn.
use Rattle.std.specs.Prelude.{ℕ, zero, suc, ◌-◌, ◌*◌, Bool, true, false, ◌&&◌, ◌==◌, nat_le, nat_lt, List, length, slice_get, Option, Some, None, if◌then◌else◌}
use Rattle.machine_model.specs.contracts.mode.ModePartialEq.TheImpl as mode
use Rattle.machine_model.specs.Policy.{Policy}
use Rattle.machine_model.specs.Run.{Course}
use Rattle.machine_model.specs.System.{System}

abbrev pub same_last : Option ℕ → Option ℕ → Bool
same_last None None = true
same_last (Some one) (Some other) = one == other
same_last None (Some other) = false
same_last (Some one) None = false

-- the choosers are equal, which follow one list
unfoldable pub same_policy : Policy → Policy → Bool
same_policy one other =
    (mode.ghosts).eq one.mode other.mode
    && (one.follow.position == other.follow.position)
    && same_last one.follow.last other.follow.last

-- what is compared of a course
pub record Snapshot (S : Type 0) : Type 0 where
  pub state : S
  pub policy : Policy

abbrev pub snapshot_of : {S : Type 0} → Course S → Snapshot S
snapshot_of course = record { state = course.state; policy = course.policy }

abbrev pub same_snapshot : {S : Type 0} → System S → Snapshot S → Snapshot S → Bool
same_snapshot system one other = system.same one.state other.state && same_policy one.policy other.policy

-- the greatest power of two that is at most this number, which is not 0
unfoldable pub power_within : ℕ → ℕ
power_within zero = 0
power_within (suc n) = if nat_le (2 * power_within n) (suc n) then suc n else power_within n

-- the turn with which a turn is compared
abbrev pub earlier_turn : ℕ → ℕ
earlier_turn turn = power_within (turn - 1)

abbrev pub is_repeat : {S : Type 0} → System S → Snapshot S → Option (Snapshot S) → Bool
is_repeat system now None = false
is_repeat system now (Some earlier) = same_snapshot system earlier now

-- the test after turn `turn`, from the snapshots after turns 0, 1 and so on before it; the first turn has none
unfoldable pub repeats : {S : Type 0} → System S → List (Snapshot S) → Snapshot S → Bool
repeats system past now =
    nat_lt 1 (length past) && is_repeat system now (slice_get past (earlier_turn (length past)))
