use Rattle.global_check.proofs.Sizes.{image_keeps}
use Rattle.global_check.proofs.laws.images_keep_their_sizes.Goals as goal

pub returns : goal.returns
returns c = image_keeps
