use Rattle.ir_lex.proofs.Layouts.{text_laid_out}
use Rattle.ir_lex.proofs.Positions.{tokens_are_few}
use Rattle.ir_lex.proofs.laws.tokens_are_few.Goals as goal

pub returns : goal.returns
returns c = λ text. tokens_are_few (text_laid_out text)
