use Rattle.std.proofs.Common.{bytes_eq}
use Rattle.ir_names.proofs.Tables.{added_kept, added_new, bytes_equiv}
use Rattle.ir_names.proofs.laws.items_keep_places.Goals as goal

pub returns-clause-new : goal.returns-clause-new
returns-clause-new c = added_new bytes_eq bytes_equiv.refl

pub returns-clause-kept : goal.returns-clause-kept
returns-clause-kept c = added_kept bytes_eq bytes_equiv.refl
