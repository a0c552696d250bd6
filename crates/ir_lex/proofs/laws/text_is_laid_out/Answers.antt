use Rattle.ir_lex.proofs.Layouts.{text_laid_out}
use Rattle.ir_lex.proofs.laws.text_is_laid_out.Goals as goal

pub returns : goal.returns
returns c = text_laid_out
