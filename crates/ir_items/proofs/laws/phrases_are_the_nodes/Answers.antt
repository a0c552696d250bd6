use Rattle.ir_items.proofs.PhraseLaws.{phrases_all_closed, phrases_closed, phrases_shaped, phrases_whole}
use Rattle.ir_items.proofs.laws.phrases_are_the_nodes.Goals as goal

pub returns-clause-whole : goal.returns-clause-whole
returns-clause-whole c = phrases_whole

pub returns-clause-shaped : goal.returns-clause-shaped
returns-clause-shaped c = phrases_shaped

pub returns-clause-closed : goal.returns-clause-closed
returns-clause-closed c = phrases_closed

pub returns-clause-all_closed : goal.returns-clause-all_closed
returns-clause-all_closed c = phrases_all_closed
