use Rattle.instruction_check.specs.Literals.{word_of}
use Rattle.instruction_check.proofs.Words.{same_word}
use Rattle.instruction_check.proofs.literals.truncated.Goals as goal

pub returns : goal.returns
returns c = same_word c.truncated.result (word_of c.args.width c.args.number) c.truncated.ensures.width c.truncated.ensures.bits
