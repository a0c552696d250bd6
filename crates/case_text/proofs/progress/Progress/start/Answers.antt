use Rattle.case_text.proofs.Steps.{started}
use Rattle.case_text.proofs.progress.Progress.start.Goals as goal

pub returns : goal.returns
returns c = started _ _ _ _ c.new.ensures c.new-2.ensures c.new-3.ensures c.new-4.ensures
