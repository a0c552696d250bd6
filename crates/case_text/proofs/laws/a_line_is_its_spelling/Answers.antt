use Rattle.case_text.proofs.Shapes.{line_spelled}
use Rattle.case_text.proofs.laws.a_line_is_its_spelling.Goals as goal

pub returns : goal.returns
returns c = line_spelled
