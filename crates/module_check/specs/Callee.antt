-- The function that a call names.
use Rattle.std.specs.Prelude.{Bool, false, List, [], ◌∷◌, Option, Some, None, if◌then◌else◌}
use Rattle.ir_read.specs.declared.terminal.Terminal.{Terminal}
use Rattle.ir_read.specs.declared.terminal.Terminal.TheVariants as t
use Rattle.ir_read.specs.Node.{Told}
use Rattle.ir_items.specs.Phrase.{is_left_paren, phrases_of}
use Rattle.ir_items.specs.Statement.{Statement}
use Rattle.external_calls.specs.Prototype as calls
use Rattle.instruction_check.specs.declared.roles.GlobalRole.{GlobalRole}
use Rattle.instruction_check.specs.declared.roles.GlobalRole.TheVariants.{Declared}
use Rattle.instruction_check.specs.declared.scope.ModuleNames.{ModuleNames}
use Rattle.instruction_check.specs.Phrases.{first, behind}
use Rattle.instruction_check.specs.Scope.{global_role}

-- what the name that a phrase is stands for
abbrev pub role_in : ModuleNames → List Told → Option GlobalRole
role_in names [] = None
role_in names (node ∷ rest) = global_role names node

abbrev pub next_role : ModuleNames → List (List Told) → Option GlobalRole
next_role names phrases = role_in names (first phrases)

-- the types that a call writes before its callee, in brackets
abbrev pub are_types : List Told → Bool
are_types [] = false
are_types (node ∷ rest) = is_left_paren node.terminal

-- the callee stands behind the type of the result, and behind those types where there are some
abbrev pub callee_in : ModuleNames → List (List Told) → Option GlobalRole
callee_in names phrases = if are_types (first phrases) then next_role names (behind phrases) else role_in names (first phrases)

abbrev pub callee_role : ModuleNames → List (List Told) → Option GlobalRole
callee_role names phrases = callee_in names (behind phrases)

abbrev pub writes : Option GlobalRole → Bool
writes (Some (Declared (Some call))) = calls.is_output call
writes _ = false

abbrev pub is_output_by : Terminal → ModuleNames → List (List Told) → Bool
is_output_by t.Call names phrases = writes (callee_role names phrases)
is_output_by _ names phrases = false

-- whether the instruction is a call that writes to standard output
abbrev pub is_output : ModuleNames → Statement → Bool
is_output names statement = is_output_by statement.operation.terminal names (phrases_of statement.operands)
