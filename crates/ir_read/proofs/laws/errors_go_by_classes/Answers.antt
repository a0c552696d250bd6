use Rattle.ir_read.proofs.Causes.{bad_is_lexical, end_is_syntax, other_is_one_of_two, word_is_unsupported}
use Rattle.ir_read.proofs.laws.errors_go_by_classes.Goals as goal

pub returns-clause-bad : goal.returns-clause-bad
returns-clause-bad c = bad_is_lexical

pub returns-clause-end : goal.returns-clause-end
returns-clause-end c = end_is_syntax

pub returns-clause-word : goal.returns-clause-word
returns-clause-word c = word_is_unsupported

pub returns-clause-other : goal.returns-clause-other
returns-clause-other c = other_is_one_of_two
