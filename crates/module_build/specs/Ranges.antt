-- Modules whose numbers are in range: those of functions, of a function's blocks, and of its registers.
use Rattle.std.specs.Prelude.{ℕ, ◌<◌, List, All, length, Option, Some, None}
use Rattle.ir_types.specs.declared.external.Extern.{Extern}
use Rattle.ir_types.specs.declared.external.Extern.TheVariants.{Create, Join, ThreadExit, SelfNumber, MutexInit, MutexDestroy, Lock, TryLock, Unlock, CondInit, CondDestroy, CondWait, CondReturn, Signal, Broadcast, Yield, Usleep, Sleep, Malloc, Calloc, Free, Memcpy, Memmove, Memset, Strlen, LlvmMemcpy, LlvmMemmove, LlvmMemset, Putchar, Puts, Printf, Exit, Abort, AssertFail, Input}
use Rattle.ir_types.specs.declared.instruction.Inst.{Inst}
use Rattle.ir_types.specs.declared.instruction.Inst.TheVariants.{Binary, Compare, Convert, Same, Select, Phi, Alloca, Load, Store, Address, Branch, BranchIf, Switch, Ret, Unreachable, Call, External}
use Rattle.ir_types.specs.declared.instruction.Operand.{Operand}
use Rattle.ir_types.specs.declared.instruction.Operand.TheVariants.{Register, Constant}
use Rattle.ir_types.specs.declared.word.Word.{Word}
use Rattle.ir_types.specs.declared.«module».Block.{Block}
use Rattle.ir_types.specs.declared.«module».Function.{Function}
use Rattle.ir_types.specs.declared.«module».Module.{Module}

-- how many functions there are, and blocks and registers of one
pub record Room : Type 0 where
  pub functions : ℕ
  pub blocks : ℕ
  pub registers : ℕ

abbrev pub IsIn : Room → Operand → Type 0
IsIn room (Register number) = number < room.registers
IsIn room (Constant word) = Unit {0}

abbrev pub AreIn : Room → List Operand → Type 0
AreIn room operands = All (IsIn room) operands

-- what an instruction sets which may give nothing
abbrev pub IsSet : Room → Option ℕ → Type 0
IsSet room (Some to) = to < room.registers
IsSet room None = Unit {0}

abbrev pub IsReturned : Room → Option Operand → Type 0
IsReturned room (Some value) = IsIn room value
IsReturned room None = Unit {0}

-- the function that a new thread runs
abbrev pub IsStarted : Room → Extern → Type 0
IsStarted room (Create function) = function < room.functions
IsStarted room Join = Unit {0}
IsStarted room ThreadExit = Unit {0}
IsStarted room SelfNumber = Unit {0}
IsStarted room MutexInit = Unit {0}
IsStarted room MutexDestroy = Unit {0}
IsStarted room Lock = Unit {0}
IsStarted room TryLock = Unit {0}
IsStarted room Unlock = Unit {0}
IsStarted room CondInit = Unit {0}
IsStarted room CondDestroy = Unit {0}
IsStarted room CondWait = Unit {0}
IsStarted room CondReturn = Unit {0}
IsStarted room Signal = Unit {0}
IsStarted room Broadcast = Unit {0}
IsStarted room Yield = Unit {0}
IsStarted room Usleep = Unit {0}
IsStarted room Sleep = Unit {0}
IsStarted room Malloc = Unit {0}
IsStarted room Calloc = Unit {0}
IsStarted room Free = Unit {0}
IsStarted room Memcpy = Unit {0}
IsStarted room Memmove = Unit {0}
IsStarted room Memset = Unit {0}
IsStarted room Strlen = Unit {0}
IsStarted room LlvmMemcpy = Unit {0}
IsStarted room LlvmMemmove = Unit {0}
IsStarted room LlvmMemset = Unit {0}
IsStarted room Putchar = Unit {0}
IsStarted room Puts = Unit {0}
IsStarted room (Printf pieces) = Unit {0}
IsStarted room Exit = Unit {0}
IsStarted room Abort = Unit {0}
IsStarted room AssertFail = Unit {0}
IsStarted room (Input slot width) = Unit {0}

abbrev pub IsEdge : Room → ℕ × Operand → Type 0
IsEdge room edge = (edge.0 < room.blocks) × IsIn room edge.1

abbrev pub IsCase : Room → Word × ℕ → Type 0
IsCase room one = one.1 < room.blocks

abbrev pub IsScaled : Room → Operand × ℕ → Type 0
IsScaled room one = IsIn room one.0

abbrev pub Fits : Room → Inst → Type 0
Fits room (Binary to op a b) = (to < room.registers) × IsIn room a × IsIn room b
Fits room (Compare to op a b) = (to < room.registers) × IsIn room a × IsIn room b
Fits room (Convert to op a width) = (to < room.registers) × IsIn room a
Fits room (Same to a) = (to < room.registers) × IsIn room a
Fits room (Select to c a b) = (to < room.registers) × IsIn room c × IsIn room a × IsIn room b
Fits room (Phi to edges) = (to < room.registers) × All (IsEdge room) edges
Fits room (Alloca to unit count) = (to < room.registers) × IsIn room count
Fits room (Load to kind at) = (to < room.registers) × IsIn room at
Fits room (Store kind value at) = IsIn room value × IsIn room at
Fits room (Address to base fixed scaled) = (to < room.registers) × IsIn room base × All (IsScaled room) scaled
Fits room (Branch block) = block < room.blocks
Fits room (BranchIf c one other) = IsIn room c × (one < room.blocks) × (other < room.blocks)
Fits room (Switch value default cases) = IsIn room value × (default < room.blocks) × All (IsCase room) cases
Fits room (Ret value) = IsReturned room value
Fits room Unreachable = Unit {0}
Fits room (Call to function arguments) = IsSet room to × (function < room.functions) × AreIn room arguments
Fits room (External to which arguments) = IsSet room to × IsStarted room which × AreIn room arguments

abbrev pub HasRoomFor : Room → Block → Type 0
HasRoomFor room block = All (Fits room) block.insts

abbrev pub room_of : ℕ → Function → Room
room_of functions function =
    record { functions = functions; blocks = length function.blocks; registers = length function.registers }

abbrev pub IsInRange : ℕ → Function → Type 0
IsInRange functions function = All (HasRoomFor (room_of functions function)) function.blocks

abbrev pub AreInRange : Module → Type 0
AreInRange code = All (IsInRange (length code.functions)) code.functions
