use Rattle.machine_laws.proofs.OtherBytes.{extents-kept, other_bytes-kept}
use Rattle.machine_laws.proofs.store_keeps_others.Goals as goal

pub returns : goal.returns
returns c = record { extents = extents-kept; bytes = other_bytes-kept }
