use Rattle.ir_names.specs.LocalName.{local_eq}
use Rattle.ir_names.proofs.LocalTables.{local_refl}
use Rattle.ir_names.proofs.Tables.{added_kept, added_new}
use Rattle.ir_names.proofs.laws.locals_keep_places.Goals as goal

pub returns-clause-new : goal.returns-clause-new
returns-clause-new c = added_new local_eq local_refl

pub returns-clause-kept : goal.returns-clause-kept
returns-clause-kept c = added_kept local_eq local_refl
