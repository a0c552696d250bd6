use Rattle.std.proofs.Common.{refl}
use Rattle.machine_model.specs.Call.{is_blocked, call_of}
use Rattle.machine_model.specs.Code.{next_in}
use Rattle.machine_model.specs.Decision.{addresses_of, addresses_of_call, next_number, numbers_within}
use Rattle.machine_model.specs.Enabled.{enabled, is_enabled, has_to_wait, waits_for}
use Rattle.machine_model.specs.Follow.{follow_turns}
use Rattle.machine_model.specs.Policy.{choose}
use Rattle.machine_model.specs.Instruction.{effect_of}
use Rattle.machine_model.specs.Memory.{read, written, bytes_of}
use Rattle.machine_model.specs.Operation.{changed_by, is_visible, is_visible_call, made_by, visible_effect}
use Rattle.machine_model.specs.Run.{run_of, run_from, advanced}
use Rattle.machine_model.specs.Turn.{turn, steps_within, paid, charged, rest_of_turn}
use Rattle.machine_model.specs.Step.{first_step, next_step}
use Rattle.machine_laws.proofs.worked_example.Goals as goal

pub returns : goal.returns
unfolding run_of run_from advanced turn steps_within next_step first_step paid charged rest_of_turn choose follow_turns enabled is_enabled has_to_wait waits_for is_visible is_visible_call visible_effect made_by changed_by is_blocked call_of next_in addresses_of addresses_of_call next_number numbers_within effect_of read written bytes_of
returns c = record {
  whole = λ input. refl;
  larger = λ input. refl;
  cut_in_thread = λ input. refl;
  cut_at_end = λ input. refl;
  costs = λ input. refl;
}
