use Rattle.module_build.proofs.Main.{main_there}
use Rattle.module_build.proofs.laws.main_is_there.Goals as goal

pub returns : goal.returns
returns c = main_there c.names_stand_for_what_is_there.ensures.items
