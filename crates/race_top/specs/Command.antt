-- The table of commands.
use Rattle.std.specs.Prelude.{ℕ, ◌&&◌, List, [], ◌∷◌, Option, Some, None, codes, if◌then◌else◌, bytes_eq}
use Rattle.race_top.specs.declared.command.Command.{Command}
use Rattle.race_top.specs.declared.command.Command.TheVariants as commands

-- what a command asks for, with the names of the module and of the case
pub data Task : Type 0 where
  Replay : List ℕ → List ℕ → Task
  Classify : List ℕ → List ℕ → Task

abbrev pub module_name : Task → List ℕ
module_name (Replay code case) = code
module_name (Classify code case) = code

abbrev pub case_name : Task → List ℕ
case_name (Replay code case) = case
case_name (Classify code case) = case

-- `replay MODULE CASE`, and `classify MODULE CASE PROOFS WORKERS`. Not served yet: more than one worker.
abbrev pub command_of : List (List ℕ) → Option Task
command_of (word ∷ code ∷ case ∷ []) = if bytes_eq word (codes "replay") then Some (Replay code case) else None
command_of (word ∷ code ∷ case ∷ proofs ∷ workers ∷ []) =
    if bytes_eq word (codes "classify") && bytes_eq workers (codes "1") then Some (Classify code case) else None
command_of _ = None

abbrev pub task_of : Command → Task
task_of (commands.Replay code case) = Replay code.now case.now
task_of (commands.Classify code case) = Classify code.now case.now
