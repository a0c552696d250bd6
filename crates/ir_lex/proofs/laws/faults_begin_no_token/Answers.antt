use Rattle.ir_lex.proofs.Layouts.{text_laid_out}
use Rattle.ir_lex.proofs.Positions.{text_facts}
use Rattle.ir_lex.proofs.laws.faults_begin_no_token.Goals as goal

pub returns : goal.returns
returns c = λ text. (text_facts text (text_laid_out text)).1
