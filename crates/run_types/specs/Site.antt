-- Sites of instructions.
use Rattle.std.specs.Prelude.{Bool, ◌&&◌, ◌==◌}
use Rattle.ir_types.specs.declared.instruction.Site.{Site}

abbrev pub is_site : Site → Site → Bool
is_site one other = (one.function == other.function) && (one.inst == other.inst)
