-- What the end of a thread leaves.
use Rattle.std.specs.Prelude.{ℕ, slice_set}
use Rattle.machine_model.specs.declared.state.Frame.{Frame}
use Rattle.machine_model.specs.declared.state.State.{State}
use Rattle.machine_model.specs.declared.state.Thread.{Thread}
use Rattle.machine_model.specs.Memory.{without}
use Rattle.machine_model.specs.Operation.{ended}

-- the state after a thread other than main has ended
abbrev pub left_by : State → ℕ → Thread → Frame → ℕ → State
left_by state number thread frame result = record state {
  threads = slice_set state.threads number (ended thread result);
  objects = without frame.stack state.objects;
}
