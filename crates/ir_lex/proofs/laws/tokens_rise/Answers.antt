use Rattle.ir_lex.proofs.Layouts.{text_laid_out}
use Rattle.ir_lex.proofs.Positions.{tokens_precede}
use Rattle.ir_lex.proofs.laws.tokens_rise.Goals as goal

pub returns : goal.returns
returns c = λ text. tokens_precede (text_laid_out text)
