use Rattle.machine_laws.proofs.PendingThreads.{moments-are_pending, started-are_pending, turn-keeps_pending}
use Rattle.machine_laws.proofs.pending_is_next.Goals as goal

pub returns : goal.returns
returns c = record { started = started-are_pending; turn = turn-keeps_pending; moments = moments-are_pending }
