use Rattle.race_top.proofs.ClassEvidence.{classes-shown}
use Rattle.race_top.proofs.analyser_pool.laws.classes_have_evidence.Goals as goal

pub returns : goal.returns
returns c = classes-shown
