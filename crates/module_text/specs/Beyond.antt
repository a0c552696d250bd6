-- The first instruction of a module that the machine has no row for, and its line.
use Rattle.std.specs.Prelude.{ℕ, Bool, not, List, Option, option_map}
use Rattle.std.specs.List.{find, zip}
use Rattle.ir_items.specs.Segment.{Segment}
use Rattle.ir_types.specs.declared.instruction.Inst.{Inst}
use Rattle.ir_types.specs.declared.«module».Module.{Module}
use Rattle.machine_model.specs.Rows.{has_row}
use Rattle.module_build.specs.InLine.{insts_of}
use Rattle.module_build.specs.Lines.{lines_of}

abbrev pub is_beyond : Module → Inst × ℕ → Bool
is_beyond code one = not (has_row code one.0)

-- the first instruction without a row, beside its line, by the lines of all
abbrev pub first_without_row : Module → List ℕ → Option (Inst × ℕ)
first_without_row code lines = find (is_beyond code) (zip (insts_of code.functions) lines)

-- the line of the first one, of a module whose items these are
abbrev pub first_beyond : List Segment → Module → Option ℕ
first_beyond items code = option_map (λ found. found.1) (first_without_row code (lines_of items))
