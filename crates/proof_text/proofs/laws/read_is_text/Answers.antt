use Rattle.proof_text.proofs.Accepted.{read-text}
use Rattle.proof_text.proofs.laws.read_is_text.Goals as goal

pub returns : goal.returns
returns c = read-text
