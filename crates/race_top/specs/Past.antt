-- What the repeat test compares with, in terms of the definitions.
use Rattle.std.specs.Prelude.{◌≡◌, ◌+◌, ◌<◌, List, length, slice_get, Some}
use Rattle.machine_model.specs.declared.state.State.{State}
use Rattle.machine_model.specs.Repeat.{Snapshot, power_within}
use Rattle.race_top.specs.declared.order_enforcer.past.Past.{Past}

-- the snapshot that is kept
abbrev pub kept_snapshot : Past → Snapshot State
kept_snapshot past = record { state = past.machine.state; policy = past.policy.policy }

-- the count of turns, and the snapshot after the greatest power of two among them, of these snapshots after all turns
-- from the start on
pub record Recalls (snapshots : List (Snapshot State)) (past : Past) : Type 0 where
  pub turns : length snapshots ≡ past.turns + 1
  pub earlier : past.earlier ≡ power_within past.turns
  pub kept : 0 < past.turns → slice_get snapshots past.earlier ≡ Some (kept_snapshot past)
