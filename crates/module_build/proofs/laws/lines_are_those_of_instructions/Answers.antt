use Rattle.module_build.proofs.InLines.{lines_theirs}
use Rattle.module_build.proofs.laws.lines_are_those_of_instructions.Goals as goal

pub returns : goal.returns
returns c = lines_theirs
