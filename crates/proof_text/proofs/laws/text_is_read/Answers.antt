use Rattle.proof_text.proofs.Again.{text-read}
use Rattle.proof_text.proofs.laws.text_is_read.Goals as goal

pub returns : goal.returns
returns c = text-read
