use Rattle.machine_model.specs.System.{same_state, without_output}
use Rattle.machine_laws.proofs.PolicyEquality.{policy_decides}
use Rattle.machine_laws.proofs.Powers.{earlier_turn-is_power}
use Rattle.machine_laws.proofs.StateEquality.{state_decides}
use Rattle.machine_laws.proofs.repeat_test_is_equality.Goals as goal

pub returns : goal.returns
unfolding same_state
returns c = record {
  state = λ one other. state_decides (without_output one) (without_output other);
  policy = policy_decides;
  earlier = earlier_turn-is_power;
}
