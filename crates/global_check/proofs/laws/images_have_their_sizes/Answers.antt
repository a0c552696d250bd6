use Rattle.global_check.proofs.Sizes.{images_have}
use Rattle.global_check.proofs.laws.images_have_their_sizes.Goals as goal

pub returns : goal.returns
returns c = images_have
