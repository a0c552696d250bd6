use Rattle.module_text.proofs.Rows.{within_have_rows}
use Rattle.module_text.proofs.laws.modules_within_have_rows.Goals as goal

pub returns : goal.returns
returns c =
    within_have_rows c.lines_are_those_of_instructions.ensures c.blocks_are_whole.ensures c.main_is_there.ensures
