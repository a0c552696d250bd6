-- What stays the same in a run: the module, the input and the watched sites.
use Rattle.std.specs.Prelude.{List}
use Rattle.ir_types.specs.declared.«module».Module.{Module}
use Rattle.ir_types.specs.declared.input.Input.{Input}
use Rattle.ir_types.specs.declared.instruction.Site.{Site}

pub record Setting : Type 0 where
  pub code : Module
  pub input : Input
  pub watch : List Site
