use Rattle.refutation.proofs.Soundness.{step-sound, steps-hold}
use Rattle.refutation.proofs.laws.steps_are_implied.Goals as goal

pub returns : goal.returns
returns c = record { one = step-sound; all = steps-hold }
