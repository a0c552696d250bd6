-- The operands that phrases spell.
use Rattle.std.specs.Prelude.{ℕ, List, [], ◌∷◌, Some}
use Rattle.ir_types.specs.declared.instruction.Operand.{Operand}
use Rattle.ir_types.specs.declared.word.Kind.{Kind}
use Rattle.ir_types.specs.declared.word.Kind.TheVariants.{Ptr}
use Rattle.ir_read.specs.declared.terminal.Terminal.{Terminal}
use Rattle.ir_read.specs.declared.terminal.Terminal.TheVariants as t
use Rattle.ir_read.specs.Node.{Told}
use Rattle.module_fault.specs.declared.cause.Cause.TheVariants.{TypeMismatch}
use Rattle.module_fault.specs.declared.cause.Found.{Found}
use Rattle.instruction_check.specs.declared.operand.Typed.{Typed}
use Rattle.module_fault.specs.Cause.{lesser}
use Rattle.instruction_check.specs.Expressions.{expression}
use Rattle.instruction_check.specs.Literals.{constant, constant_of}
use Rattle.instruction_check.specs.Phrases.{first, second, kind_in}
use Rattle.instruction_check.specs.Roles.{register, unless_same}
use Rattle.instruction_check.specs.Scope.{Scope, address, block_in, local_role}

-- an address, where a value of the kind is due
abbrev pub pointer : Kind → Found ℕ → Found Operand
pointer kind place = record { value = constant Ptr place.value; cause = lesser place.cause (unless_same Ptr kind) }

abbrev pub register_of : Scope → Kind → Told → Found Operand
register_of scope kind node = register kind (local_role scope.body node)

abbrev pub global_of : Scope → Kind → Told → Found Operand
global_of scope kind node = pointer kind (address scope.names node)

abbrev pub plain_by : Scope → Kind → Told → Terminal → Found Operand
plain_by scope kind node t.Local = register_of scope kind node
plain_by scope kind node t.Global = global_of scope kind node
plain_by scope kind node t.OddGlobal = global_of scope kind node
plain_by scope kind node _ = constant_of kind node

abbrev pub no_operand : Kind → Found Operand
no_operand kind = record { value = constant kind 0; cause = Some TypeMismatch }

-- the operand of the kind that a phrase spells which is no constant expression
abbrev pub plain : Scope → Kind → List Told → Found Operand
plain scope kind [] = no_operand kind
plain scope kind (node ∷ rest) = plain_by scope kind node node.terminal

abbrev pub operand_by : Terminal → Scope → Kind → List Told → Found Operand
operand_by t.GetElementPtr scope kind phrase =
    pointer kind (expression scope.names scope.structs t.GetElementPtr phrase)
operand_by t.IntToPtr scope kind phrase = pointer kind (expression scope.names scope.structs t.IntToPtr phrase)
operand_by _ scope kind phrase = plain scope kind phrase

-- the operand of the kind that a phrase spells
abbrev pub operand : Scope → Kind → List Told → Found Operand
operand scope kind [] = plain scope kind []
operand scope kind (node ∷ rest) = operand_by node.terminal scope kind (node ∷ rest)

abbrev pub typed_with : Kind → Found Operand → Typed
typed_with kind found = record { kind = kind; value = found.value; cause = found.cause }

-- a type and an operand of it, in front of the phrases
abbrev pub typed : Scope → List (List Told) → Typed
typed scope phrases =
    let kind = kind_in (first phrases) in
    typed_with kind (operand scope kind (second phrases))

-- the number of the block that a phrase names
abbrev pub block_of : Scope → List Told → Found ℕ
block_of scope phrase = block_in scope.body phrase
