use Rattle.race_top.proofs.SpentEvidence.{unresolved-is_cut}
use Rattle.race_top.proofs.analyser_pool.laws.unresolved_is_cut.Goals as goal

pub returns : goal.returns
returns c = unresolved-is_cut c.spent_is_cut.ensures.job
