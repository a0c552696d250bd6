-- What the laws say of blocks.
use Rattle.std.specs.Prelude.{Bool, true, false}
use Rattle.module_check.specs.declared.shape.Phase.{Phase}
use Rattle.module_check.specs.declared.shape.Phase.TheVariants.{Open, Ended, Broken}

abbrev pub is_ended : Phase → Bool
is_ended Ended = true
is_ended Open = false
is_ended Broken = false
