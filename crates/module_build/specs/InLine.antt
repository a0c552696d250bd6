-- The instructions of a module, and the lines that are theirs.
use Rattle.std.specs.Prelude.{◌≡◌, ℕ, List}
use Rattle.std.specs.List.{AllZip, flat_map}
use Rattle.ir_items.specs.Segment.{Segment}
use Rattle.ir_items.specs.Statement.{Statement}
use Rattle.ir_types.specs.declared.instruction.Inst.{Inst}
use Rattle.ir_types.specs.declared.«module».Block.{Block}
use Rattle.ir_types.specs.declared.«module».Function.{Function}
use Rattle.ir_types.specs.declared.«module».Module.{Module}
use Rattle.instruction_check.specs.Scope.{Scope}
use Rattle.module_build.specs.Instruction.{instruction}
use Rattle.module_build.specs.Lines.{lines_of}

abbrev pub blocks_of : List Function → List Block
blocks_of functions = flat_map (λ (function : Function). function.blocks) functions

abbrev pub insts_in : List Block → List Inst
insts_in blocks = flat_map (λ (block : Block). block.insts) blocks

-- all instructions of a module, in order
abbrev pub insts_of : List Function → List Inst
insts_of functions = insts_in (blocks_of functions)

-- the instruction that a statement of the line is
pub record IsInLine (line : ℕ) (inst : Inst) : Type 0 where
  pub scope : Scope
  pub to : ℕ
  pub statement : Statement
  pub in_line : statement.line ≡ line
  pub is : (instruction scope to statement).value ≡ inst

abbrev pub LinesAreTheirs : List Segment → Module → Type 0
LinesAreTheirs items code = AllZip IsInLine (lines_of items) (insts_of code.functions)
