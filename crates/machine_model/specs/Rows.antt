-- The modules of which each instruction has its row. The last instruction of a block, and no other, ends it.
use Rattle.std.specs.Prelude.{◌<◌, Bool, true, false, ◌&&◌, nat_lt, List, [], ◌∷◌, All, IsTrue, length, if◌then◌else◌}
use Rattle.ir_types.specs.declared.external.Extern.{Extern}
use Rattle.ir_types.specs.declared.external.Extern.TheVariants.{Create, Join, ThreadExit, SelfNumber, MutexInit, MutexDestroy, Lock, TryLock, Unlock, CondInit, CondDestroy, CondWait, CondReturn, Signal, Broadcast, Yield, Usleep, Sleep, Malloc, Calloc, Free, Memcpy, Memmove, Memset, Strlen, LlvmMemcpy, LlvmMemmove, LlvmMemset, Putchar, Puts, Printf, Exit, Abort, AssertFail, Input}
use Rattle.ir_types.specs.declared.instruction.Inst.{Inst}
use Rattle.ir_types.specs.declared.instruction.Inst.TheVariants.{Binary, Compare, Convert, Same, Select, Phi, Alloca, Load, Store, Address, Branch, BranchIf, Switch, Ret, Unreachable, Call, External}
use Rattle.ir_types.specs.declared.«module».Function.{Function}
use Rattle.ir_types.specs.declared.«module».Module.{Module}

-- the call has a row; a thread runs a function that there is
unfoldable pub has_row_of_call : Module → Extern → Bool
has_row_of_call code (Create function) = nat_lt function (length code.functions)
has_row_of_call code Join = true
has_row_of_call code Putchar = true
has_row_of_call code ThreadExit = false
has_row_of_call code SelfNumber = false
has_row_of_call code MutexInit = false
has_row_of_call code MutexDestroy = false
has_row_of_call code Lock = false
has_row_of_call code TryLock = false
has_row_of_call code Unlock = false
has_row_of_call code CondInit = false
has_row_of_call code CondDestroy = false
has_row_of_call code CondWait = false
has_row_of_call code CondReturn = false
has_row_of_call code Signal = false
has_row_of_call code Broadcast = false
has_row_of_call code Yield = false
has_row_of_call code Usleep = false
has_row_of_call code Sleep = false
has_row_of_call code Malloc = false
has_row_of_call code Calloc = false
has_row_of_call code Free = false
has_row_of_call code Memcpy = false
has_row_of_call code Memmove = false
has_row_of_call code Memset = false
has_row_of_call code Strlen = false
has_row_of_call code LlvmMemcpy = false
has_row_of_call code LlvmMemmove = false
has_row_of_call code LlvmMemset = false
has_row_of_call code Puts = false
has_row_of_call code (Printf pieces) = false
has_row_of_call code Exit = false
has_row_of_call code Abort = false
has_row_of_call code AssertFail = false
has_row_of_call code (Input slot width) = false

-- the instruction has a row
unfoldable pub has_row : Module → Inst → Bool
has_row code (Binary to op a b) = true
has_row code (Load to kind at) = true
has_row code (Store kind value at) = true
has_row code (Ret value) = true
has_row code (External to which arguments) = has_row_of_call code which
has_row code (Compare to op a b) = false
has_row code (Convert to op a width) = false
has_row code (Same to a) = false
has_row code (Select to c a b) = false
has_row code (Phi to edges) = false
has_row code (Alloca to unit count) = false
has_row code (Address to base fixed scaled) = false
has_row code (Branch block) = false
has_row code (BranchIf c one other) = false
has_row code (Switch value default cases) = false
has_row code Unreachable = false
has_row code (Call to function arguments) = false

-- the instruction is the end of its block
unfoldable pub ends_block : Inst → Bool
ends_block (Branch block) = true
ends_block (BranchIf c one other) = true
ends_block (Switch value default cases) = true
ends_block (Ret value) = true
ends_block Unreachable = true
ends_block (Binary to op a b) = false
ends_block (Compare to op a b) = false
ends_block (Convert to op a width) = false
ends_block (Same to a) = false
ends_block (Select to c a b) = false
ends_block (Phi to edges) = false
ends_block (Alloca to unit count) = false
ends_block (Load to kind at) = false
ends_block (Store kind value at) = false
ends_block (Address to base fixed scaled) = false
ends_block (Call to function arguments) = false
ends_block (External to which arguments) = false

abbrev pub is_empty : {A : Type 0} → List A → Bool
is_empty [] = true
is_empty (first ∷ rest) = false

-- the instructions of a block, or those from a place on
unfoldable pub is_whole : Module → List Inst → Bool
is_whole code [] = false
is_whole code (inst ∷ rest) =
    has_row code inst && (if ends_block inst then is_empty rest else is_whole code rest)

abbrev pub HasWholeBlocks : Module → Function → Type 0
HasWholeBlocks code function =
    (0 < length function.blocks) × All (λ block. IsTrue (is_whole code block.insts)) function.blocks

-- the module has all of its rows
pub record HasRows (code : Module) : Type 0 where
  pub main : code.main < length code.functions
  pub whole : All (HasWholeBlocks code) code.functions
