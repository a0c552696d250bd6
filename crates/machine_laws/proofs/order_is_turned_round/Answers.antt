use Rattle.machine_laws.proofs.OtherOrder.{order-is_turned_round}
use Rattle.machine_laws.proofs.order_is_turned_round.Goals as goal

pub returns : goal.returns
returns c = order-is_turned_round
