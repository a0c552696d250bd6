use Rattle.machine_laws.proofs.Stored.{stored-loads}
use Rattle.machine_laws.proofs.stored_is_loaded.Goals as goal

pub returns : goal.returns
returns c = stored-loads
