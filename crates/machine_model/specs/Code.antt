-- What a module has at a place: its instruction, and the kinds of a function's registers.
use Rattle.std.specs.Prelude.{ℕ, ◌+◌, List, [], Option, Some, None, slice_get}
use Rattle.ir_types.specs.declared.«module».Module.{Module}
use Rattle.ir_types.specs.declared.«module».Function.{Function}
use Rattle.ir_types.specs.declared.«module».Block.{Block}
use Rattle.ir_types.specs.declared.instruction.Inst.{Inst}
use Rattle.ir_types.specs.declared.instruction.Site.{Site}
use Rattle.ir_types.specs.declared.word.Kind.{Kind}
use Rattle.machine_model.specs.declared.state.Frame.{Frame}

-- an instruction with its site
pub record Placed : Type 0 where
  pub site : Site
  pub inst : Inst

abbrev pub blocks_of : Option Function → List Block
blocks_of None = []
blocks_of (Some function) = function.blocks

abbrev pub registers_of : Option Function → List Kind
registers_of None = []
registers_of (Some function) = function.registers

abbrev pub placed_at : ℕ → ℕ → Option Inst → Option Placed
placed_at function number None = None
placed_at function number (Some inst) =
    Some (record { site = record { function = function; inst = number }; inst = inst })

abbrev pub placed_in : Frame → Option Block → Option Placed
placed_in frame None = None
placed_in frame (Some block) =
    placed_at frame.function (block.first + frame.place) (slice_get block.insts frame.place)

-- the next instruction of a frame
unfoldable pub next_in : Module → Frame → Option Placed
next_in code frame =
    placed_in frame (slice_get (blocks_of (slice_get code.functions frame.function)) frame.block)
