use Rattle.std.proofs.Common.{refl}
use Rattle.machine_model.specs.Access.{pending_operation}
use Rattle.machine_model.specs.Call.{is_blocked, call_of}
use Rattle.machine_model.specs.Code.{next_in}
use Rattle.machine_model.specs.Decision.{addresses_of, addresses_of_call, next_number, numbers_within}
use Rattle.machine_model.specs.Enabled.{enabled, is_enabled, has_to_wait, waits_for}
use Rattle.machine_model.specs.Follow.{follow_turns}
use Rattle.machine_model.specs.Hold.{held_from}
use Rattle.machine_model.specs.Instruction.{effect_of}
use Rattle.machine_model.specs.Job.{hold_of, point_of}
use Rattle.machine_model.specs.Memory.{read, written, bytes_of}
use Rattle.machine_model.specs.Moment.{moments_from, moments_of}
use Rattle.machine_model.specs.Operation.{changed_by, is_visible, is_visible_call, made_by, visible_effect}
use Rattle.machine_model.specs.Policy.{choose}
use Rattle.machine_model.specs.Reach.{Reaches}
use Rattle.machine_model.specs.Repeat.{power_within, repeats, same_policy}
use Rattle.machine_model.specs.Run.{advanced}
use Rattle.machine_model.specs.TestedRun.{tested_from, tested_run}
use Rattle.machine_model.specs.System.{same_state}
use Rattle.machine_model.specs.Turn.{turn, steps_within, paid, charged, rest_of_turn}
use Rattle.machine_model.specs.Step.{first_step, next_step}
use Rattle.machine_laws.proofs.worked_races.Goals as goal

pub returns : goal.returns
unfolding advanced turn steps_within next_step first_step paid charged rest_of_turn choose follow_turns enabled is_enabled has_to_wait waits_for is_visible is_visible_call visible_effect made_by changed_by is_blocked call_of next_in addresses_of addresses_of_call next_number numbers_within effect_of read written bytes_of pending_operation held_from hold_of point_of moments_from moments_of Reaches power_within repeats same_policy same_state tested_from tested_run
returns c = record {
  recorded = λ input. refl;
  other = λ input. refl;
  cut_early = λ input. refl;
  cut_late = λ input. refl;
  whole = λ input. refl;
  stuck = λ input. refl;
  ended = λ input. refl;
}
