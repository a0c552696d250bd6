-- How a run ended.
use Rattle.std.specs.Prelude.{ℕ, List, [], ◌++◌, codes, decimal, slice_get}
use Rattle.std.specs.Option.{option_map, unwrap_or}
use Rattle.ir_types.specs.declared.«module».Function.{Function}
use Rattle.ir_types.specs.declared.«module».Module.{Module}
use Rattle.run_types.specs.declared.run.Outcome.{Outcome}
use Rattle.run_types.specs.declared.run.Outcome.TheVariants as outcomes
use Rattle.run_types.specs.declared.trap.Trap.{Trap}
use Rattle.run_types.specs.declared.trap.Trap.TheVariants.{DivZero, DivOverflow, Overshift, BadAddress, ReadOnly, BadFree, NotOwner, BadLock, BadJoin, Unreachable, Abort, Assert, FrameLimit, MemoryLimit}

abbrev pub trap_name : Trap → List ℕ
trap_name DivZero = codes "DivZero"
trap_name DivOverflow = codes "DivOverflow"
trap_name Overshift = codes "Overshift"
trap_name BadAddress = codes "BadAddress"
trap_name ReadOnly = codes "ReadOnly"
trap_name BadFree = codes "BadFree"
trap_name NotOwner = codes "NotOwner"
trap_name BadLock = codes "BadLock"
trap_name BadJoin = codes "BadJoin"
trap_name Unreachable = codes "Unreachable"
trap_name Abort = codes "Abort"
trap_name Assert = codes "Assert"
trap_name FrameLimit = codes "FrameLimit"
trap_name MemoryLimit = codes "MemoryLimit"

abbrev pub name_of : Function → List ℕ
name_of function = function.name

-- the name of a function of the module, empty where the module has no such function
abbrev pub function_name : Module → ℕ → List ℕ
function_name code number = unwrap_or (option_map name_of (slice_get code.functions number)) []

-- how a run ends
abbrev pub outcome_text : Module → Outcome → List ℕ
outcome_text code (outcomes.Exit status) = codes "exit " ++ decimal status
outcome_text code (outcomes.Trap trap thread site) =
    codes "trap " ++ trap_name trap ++ codes " " ++ decimal thread
    ++ codes " " ++ function_name code site.function ++ codes " " ++ decimal site.inst
outcome_text code outcomes.Deadlock = codes "deadlock"
outcome_text code (outcomes.Repeats turn earlier) =
    codes "repeats " ++ decimal turn ++ codes " " ++ decimal earlier
outcome_text code outcomes.Spent = codes "spent"
