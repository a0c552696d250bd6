-- Functions whose blocks are whole: the last instruction of each ends it, and no other does.
use Rattle.std.specs.Prelude.{◌<◌, Bool, true, false, List, [], ◌∷◌, All, IsTrue, length, if◌then◌else◌}
use Rattle.ir_types.specs.declared.instruction.Inst.{Inst}
use Rattle.ir_types.specs.declared.«module».Block.{Block}
use Rattle.ir_types.specs.declared.«module».Function.{Function}
use Rattle.ir_types.specs.declared.«module».Module.{Module}
use Rattle.machine_model.specs.Rows.{ends_block, is_empty}

-- the instructions of a block, or those from a place on
abbrev pub is_ended : List Inst → Bool
is_ended [] = false
is_ended (inst ∷ rest) = if ends_block inst then is_empty rest else is_ended rest

abbrev pub IsEnded : Block → Type 0
IsEnded block = IsTrue (is_ended block.insts)

abbrev pub HasEndedBlocks : Function → Type 0
HasEndedBlocks function = (0 < length function.blocks) × All IsEnded function.blocks

abbrev pub BlocksAreWhole : Module → Type 0
BlocksAreWhole code = All HasEndedBlocks code.functions
