-- What runs, holds and jobs need of a machine, and the machine of threads in this form.
use Rattle.std.specs.Prelude.{ℕ, Bool, false, List, [], slice_get, Option, Some, None}
use Rattle.machine_model.specs.contracts.state.StatePartialEq.TheImpl as state
use Rattle.machine_model.specs.declared.pending.Pending.{Pending}
use Rattle.run_types.specs.declared.out_item.OutItem.{OutItem}
use Rattle.machine_model.specs.declared.state.State.{State}
use Rattle.machine_model.specs.declared.state.Thread.{Thread}
use Rattle.machine_model.specs.Access.{pending_of_state}
use Rattle.machine_model.specs.Enabled.{enabled}
use Rattle.machine_model.specs.Setting.{Setting}
use Rattle.machine_model.specs.Start.{started}
use Rattle.machine_model.specs.Thread.{has_ended}
use Rattle.machine_model.specs.Turn.{Turned, turn}

pub record System (S : Type 0) : Type 0 where
  -- where each run begins
  pub start : S
  -- the threads that may take a turn, rising
  pub enabled : S → List ℕ
  -- the turn of a thread, with so many steps left
  pub turn : S → ℕ → ℕ → Turned S
  -- what a thread waits to do
  pub pending : S → ℕ → Pending
  -- the thread was made and has ended
  pub ended : S → ℕ → Bool
  pub output : S → List OutItem
  -- the states are equal, but for their output
  pub same : S → S → Bool

abbrev pub without_output : State → State
without_output state = record state { output = [] }

-- the states are equal, but for their output
unfoldable pub same_state : State → State → Bool
same_state one other = (state.ghosts).eq (without_output one) (without_output other)

abbrev pub thread_has_ended : Option Thread → Bool
thread_has_ended None = false
thread_has_ended (Some thread) = has_ended thread

abbrev pub machine_of : Setting → System State
machine_of setting = record {
  start = started setting.code;
  enabled = enabled setting.code;
  turn = turn setting;
  pending = pending_of_state setting.code;
  ended = λ state number. thread_has_ended (slice_get state.threads number);
  output = λ state. state.output;
  same = same_state;
}
