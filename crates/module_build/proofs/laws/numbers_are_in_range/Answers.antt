use Rattle.module_build.proofs.Ranges.{accepted_in_range}
use Rattle.module_build.proofs.laws.numbers_are_in_range.Goals as goal

pub returns : goal.returns
returns c = accepted_in_range c.names_stand_for_what_is_there.ensures.items c.names_stand_for_what_is_there.ensures.locals
