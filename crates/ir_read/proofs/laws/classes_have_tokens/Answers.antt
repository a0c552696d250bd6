use Rattle.ir_read.proofs.Samples.{class_has_token}
use Rattle.ir_read.proofs.laws.classes_have_tokens.Goals as goal

pub returns : goal.returns
returns c = class_has_token
