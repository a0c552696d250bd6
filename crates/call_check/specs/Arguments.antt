-- The arguments of a call, by the parameters that they are for.
use Rattle.std.specs.Prelude.{ℕ, ◌%◌, Bool, true, false, ◌&&◌, List, [], ◌∷◌, ◌++◌, drop, slice_get, Option, Some, None, unwrap_or, codes, bytes_eq, if◌then◌else◌}
use Rattle.external_calls.specs.declared.prototype.Parameter.{Parameter}
use Rattle.external_calls.specs.declared.prototype.Parameter.TheVariants as p
use Rattle.external_calls.specs.Prototype as calls
use Rattle.ir_read.specs.declared.terminal.Terminal.{Terminal}
use Rattle.ir_read.specs.declared.terminal.Terminal.TheVariants as t
use Rattle.ir_read.specs.Node.{Told}
use Rattle.ir_read.specs.Terminal.{literal_of}
use Rattle.ir_types.specs.declared.instruction.Operand.{Operand}
use Rattle.ir_types.specs.declared.word.Kind.{Kind}
use Rattle.ir_types.specs.declared.word.Kind.TheVariants.{Ptr}
use Rattle.call_check.specs.declared.arguments.Argument.{Argument}
use Rattle.call_check.specs.declared.arguments.Argument.TheVariants.{Value, Held}
use Rattle.call_check.specs.declared.arguments.Arguments.{Arguments}
use Rattle.module_fault.specs.declared.cause.Cause.{Cause}
use Rattle.module_fault.specs.declared.cause.Cause.TheVariants.{UnknownName, TypeMismatch, Unsupported}
use Rattle.module_fault.specs.declared.cause.Found.{Found}
use Rattle.instruction_check.specs.declared.roles.GlobalRole.{GlobalRole}
use Rattle.instruction_check.specs.declared.roles.GlobalRole.TheVariants as globals
use Rattle.instruction_check.specs.declared.scope.ModuleNames.{ModuleNames}
use Rattle.instruction_check.specs.declared.scope.Signature.{Signature}
use Rattle.module_fault.specs.Cause.{lesser, unless}
use Rattle.instruction_check.specs.Operand.{operand}
use Rattle.instruction_check.specs.Phrases.{kind_in}
use Rattle.instruction_check.specs.Roles.{same_result, unless_same}
use Rattle.instruction_check.specs.Scope.{Scope, global_role}

abbrev pub value : Scope → Kind → List Told → Found Argument
value scope written phrase =
    let found = operand scope written phrase in
    record { value = Value found.value; cause = found.cause }

-- what a call holds in place of the operand
abbrev pub held : Scope → ℕ → Option Cause → Kind → List Told → Found Argument
held scope number cause written phrase =
    record { value = Held number; cause = lesser (operand scope written phrase).cause cause }

-- ---- the function that a thread starts: the name of a defined `ptr (ptr)`

abbrev pub is_one_pointer : List Parameter → Bool
is_one_pointer (p.Value Ptr ∷ []) = true
is_one_pointer _ = false

abbrev pub is_start_routine : Signature → Bool
is_start_routine signature = same_result signature.result (Some Ptr) && is_one_pointer signature.parameters

abbrev pub is_routine : Option Signature → Bool
is_routine (Some signature) = is_start_routine signature
is_routine None = false

abbrev pub can_start : ModuleNames → ℕ → Bool
can_start names number = is_routine (slice_get names.signatures number)

abbrev pub routine_by : ModuleNames → Option GlobalRole → Found Argument
routine_by names (Some (globals.Function number)) = record { value = Held number; cause = unless (can_start names number) TypeMismatch }
routine_by names (Some (globals.Global number)) = record { value = Held 0; cause = Some TypeMismatch }
routine_by names (Some (globals.Declared call)) = record { value = Held 0; cause = Some TypeMismatch }
routine_by names None = record { value = Held 0; cause = Some UnknownName }

abbrev pub routine_of : ModuleNames → Told → Found Argument
routine_of names node = routine_by names (global_role names node)

abbrev pub is_global : Terminal → Bool
is_global t.Global = true
is_global t.OddGlobal = true
is_global _ = false

abbrev pub routine : Scope → Kind → List Told → Found Argument
routine scope written [] = held scope 0 (Some TypeMismatch) written []
routine scope written (node ∷ rest) =
    if is_global node.terminal then routine_of scope.names node
    else held scope 0 (Some TypeMismatch) written (node ∷ rest)

-- ---- the slot of an input: a number, or `zeroinitializer`

abbrev pub is_number : Terminal → List ℕ → Bool
is_number t.Natural text = true
is_number t.Negative text = true
is_number t.LiteralWord text = bytes_eq text (codes "zeroinitializer")
is_number _ text = false

abbrev pub slot_of : List ℕ → ℕ
slot_of text = unwrap_or (literal_of text) 0 % 4294967296

abbrev pub slot : Scope → Kind → List Told → Found Argument
slot scope written [] = held scope 0 (Some Unsupported) written []
slot scope written (node ∷ rest) =
    if is_number node.terminal node.text then held scope (slot_of node.text) None written (node ∷ rest)
    else held scope 0 (Some Unsupported) written (node ∷ rest)

-- ---- one argument

abbrev pub taken : Scope → Parameter → Kind → List Told → Found Argument
taken scope (p.Value kind) written phrase = value scope written phrase
taken scope p.StartRoutine written phrase = routine scope written phrase
taken scope p.Format written phrase = held scope 0 None written phrase
taken scope p.Slot written phrase = slot scope written phrase

-- with the kind of its parameter
abbrev pub argument : Scope → Parameter → Kind → List Told → Found Argument
argument scope parameter written phrase =
    let found = taken scope parameter written phrase in
    record { value = found.value; cause = lesser (unless_same written (calls.kind_of parameter)) found.cause }

-- one behind those for parameters
abbrev pub further : Scope → Bool → Kind → List Told → Found Argument
further scope is_open written phrase =
    let found = value scope written phrase in
    record { value = found.value; cause = lesser (unless is_open TypeMismatch) found.cause }

abbrev pub argument_for : Scope → Bool → List Parameter → Kind → List Told → Found Argument
argument_for scope is_open [] written phrase = further scope is_open written phrase
argument_for scope is_open (parameter ∷ parameters) written phrase = argument scope parameter written phrase

-- ---- all arguments: `TYPE OPERAND, ..`

abbrev pub put : List Operand → ℕ → Option Cause → Argument → Arguments
put operands number cause (Value operand) = record { operands = operands ++ operand ∷ []; held = number; cause = cause }
put operands number cause (Held other) = record { operands = operands; held = other; cause = cause }

abbrev pub and_argument : Arguments → Found Argument → Arguments
and_argument done found = put done.operands done.held (lesser done.cause found.cause) found.value

abbrev pub is_empty : List Parameter → Bool
is_empty [] = true
is_empty (parameter ∷ parameters) = false

-- each parameter has its argument
abbrev pub ended : Arguments → List Parameter → Arguments
ended done parameters = record {
  operands = done.operands;
  held = done.held;
  cause = lesser done.cause (unless (is_empty parameters) TypeMismatch);
}

-- those behind the ones so far
abbrev pub arguments_from : Scope → Bool → List Parameter → Arguments → List (List Told) → Arguments
arguments_from scope is_open parameters done (written ∷ phrase ∷ phrases) =
    arguments_from scope is_open (drop 1 parameters)
    (and_argument done (argument_for scope is_open parameters (kind_in written) phrase)) phrases
arguments_from scope is_open parameters done _ = ended done parameters

abbrev pub arguments_of : Scope → Bool → List Parameter → List (List Told) → Arguments
arguments_of scope is_open parameters phrases =
    arguments_from scope is_open parameters (record { operands = []; held = 0; cause = None }) phrases
