-- The module of a text, for the machine.
use Rattle.std.specs.Prelude.{ℕ, List, Option, Some, None, Result, Ok, Err}
use Rattle.ir_items.specs.declared.segment.Cut.TheVariants as cuts
use Rattle.ir_items.specs.Segment.{segments_of}
use Rattle.ir_read.specs.declared.error.ModuleError.{ModuleError}
use Rattle.ir_read.specs.declared.error.ModuleError.TheVariants.{Unsupported}
use Rattle.ir_read.specs.Text.{raw_module_in}
use Rattle.ir_types.specs.declared.«module».Module.{Module}
use Rattle.module_build.specs.Checked.{checked_module}
use Rattle.rc_base.specs.Failures.{◌>>=◌}
use Rattle.module_text.specs.Beyond.{first_beyond}

-- the module, unless the instruction of some line is beyond what the machine runs
abbrev pub unless_beyond : Option ℕ → Module → Result Module ModuleError
unless_beyond None code = Ok code
unless_beyond (Some line) code = Err (Unsupported line)

-- the module that the text spells, which the machine can run, or what is wrong with it first
unfoldable pub loaded_module : List ℕ → Result Module ModuleError
loaded_module text = do
  nodes ← raw_module_in text
  code ← checked_module nodes
  unless_beyond (first_beyond (segments_of cuts.Items nodes) code) code
