-- Calls of functions and of external calls, and what is wrong with them.
use Rattle.std.specs.Prelude.{ℕ, Bool, true, false, not, ◌&&◌, ◌||◌, List, [], ◌∷◌, ◌++◌, slice_get, Option, Some, None, is_some, is_none, unwrap_or, if◌then◌else◌}
use Rattle.external_calls.specs.declared.call.ExternalCall.{ExternalCall}
use Rattle.external_calls.specs.declared.call.ExternalCall.TheVariants as c
use Rattle.external_calls.specs.declared.prototype.Parameter.{Parameter}
use Rattle.external_calls.specs.declared.prototype.Parameter.TheVariants as p
use Rattle.external_calls.specs.Format.{argument_kind, pieces_of}
use Rattle.external_calls.specs.Prototype as calls
use Rattle.ir_items.specs.Phrase.{inside_of, phrases_of}
use Rattle.ir_read.specs.Escapes.{bytes_of_string}
use Rattle.ir_read.specs.Node.{Told}
use Rattle.ir_types.specs.declared.external.Extern.{Extern}
use Rattle.ir_types.specs.declared.external.Extern.TheVariants as e
use Rattle.ir_types.specs.declared.external.Piece.{Piece}
use Rattle.ir_types.specs.declared.instruction.Inst.{Inst}
use Rattle.ir_types.specs.declared.instruction.Inst.TheVariants as insts
use Rattle.ir_types.specs.declared.word.Kind.{Kind}
use Rattle.ir_types.specs.declared.word.Width.TheVariants.{W8, W16, W32, W64}
use Rattle.call_check.specs.declared.arguments.Arguments.{Arguments}
use Rattle.call_check.specs.declared.callee.Callee.{Callee}
use Rattle.call_check.specs.declared.callee.Callee.TheVariants as callees
use Rattle.module_fault.specs.declared.cause.Cause.{Cause}
use Rattle.module_fault.specs.declared.cause.Cause.TheVariants.{TypeMismatch, Unsupported}
use Rattle.module_fault.specs.declared.cause.Found.{Found}
use Rattle.instruction_check.specs.declared.roles.GlobalRole.{GlobalRole}
use Rattle.instruction_check.specs.declared.roles.GlobalRole.TheVariants as globals
use Rattle.instruction_check.specs.declared.scope.ModuleNames.{ModuleNames}
use Rattle.instruction_check.specs.declared.scope.Signature.{Signature}
use Rattle.call_check.specs.Arguments.{arguments_of, is_global}
use Rattle.call_check.specs.Callee.{Head, arguments_in, head_of, may_write}
use Rattle.module_fault.specs.Cause.{lesser, unless}
use Rattle.instruction_check.specs.Phrases.{second}
use Rattle.instruction_check.specs.Roles.{same_result}
use Rattle.instruction_check.specs.Scope.{Scope, global_role}

-- ---- formats: the name of a constant that holds one

abbrev pub pieces_in : List ℕ → Option (List Piece)
pieces_in text = pieces_of (bytes_of_string text)

abbrev pub string_by : ModuleNames → Option GlobalRole → Option (List ℕ)
string_by names (Some (globals.Global number)) = slice_get names.strings number
string_by names (Some (globals.Function number)) = None
string_by names (Some (globals.Declared call)) = None
string_by names None = None

-- the text of the string of the constant that a node names
abbrev pub string_of : ModuleNames → Told → Option (List ℕ)
string_of names node = string_by names (global_role names node)

abbrev pub pieces_by : Option (List ℕ) → Option (List Piece)
pieces_by (Some text) = pieces_in text
pieces_by None = None

abbrev pub format_of : ModuleNames → Told → Option (List Piece)
format_of names node = pieces_by (string_of names node)

abbrev pub format_in : ModuleNames → List Told → Option (List Piece)
format_in names [] = None
format_in names (node ∷ rest) = if is_global node.terminal then format_of names node else None

abbrev pub is_variadic : Callee → Bool
is_variadic (callees.External call) = calls.is_variadic call
is_variadic (callees.Function number) = false
is_variadic (callees.Refused cause) = false

-- the pieces of the format in the first of a variadic call's arguments; no pieces of another call
abbrev pub pieces_for : ModuleNames → Callee → List (List Told) → Option (List Piece)
pieces_for names callee arguments = if is_variadic callee then format_in names (second arguments) else Some []

-- ---- parameters and results

abbrev pub parameter_if : Option Kind → List Parameter → List Parameter
parameter_if None parameters = parameters
parameter_if (Some kind) parameters = p.Value kind ∷ parameters

-- those of a format's arguments
abbrev pub parameters_in : List Piece → List Parameter
parameters_in [] = []
parameters_in (piece ∷ pieces) = parameter_if (argument_kind piece) (parameters_in pieces)

abbrev pub external_parameters : ExternalCall → Option (List Piece) → List Parameter
external_parameters call None = calls.parameters_of call
external_parameters call (Some pieces) = calls.parameters_of call ++ parameters_in pieces

abbrev pub parameters_by : Option Signature → List Parameter
parameters_by (Some signature) = signature.parameters
parameters_by None = []

abbrev pub function_parameters : ModuleNames → ℕ → List Parameter
function_parameters names number = parameters_by (slice_get names.signatures number)

abbrev pub parameters_of : ModuleNames → Callee → Option (List Piece) → List Parameter
parameters_of names (callees.Function number) pieces = function_parameters names number
parameters_of names (callees.External call) pieces = external_parameters call pieces
parameters_of names (callees.Refused cause) pieces = []

abbrev pub result_by : Option Signature → Option Kind
result_by (Some signature) = signature.result
result_by None = None

abbrev pub function_result : ModuleNames → ℕ → Option Kind
function_result names number = result_by (slice_get names.signatures number)

-- what can't be called has no result of its own
abbrev pub due_result : ModuleNames → Callee → Option Kind → Option Kind
due_result names (callees.Function number) written = function_result names number
due_result names (callees.External call) written = calls.result_of call
due_result names (callees.Refused cause) written = written

-- ---- what a call becomes

abbrev pub printf : Option (List Piece) → Extern
printf (Some pieces) = e.Printf pieces
printf None = e.Printf []

abbrev pub extern_of : ExternalCall → ℕ → Option (List Piece) → Extern
extern_of c.Create held pieces = e.Create held
extern_of c.Printf held pieces = printf pieces
extern_of c.Input8 held pieces = e.Input held W8
extern_of c.Input16 held pieces = e.Input held W16
extern_of c.Input32 held pieces = e.Input held W32
extern_of c.Input64 held pieces = e.Input held W64
extern_of call held pieces = unwrap_or (calls.extern_of call) e.Abort

abbrev pub called : Option ℕ → Callee → Option (List Piece) → Arguments → Inst
called to (callees.Function function) pieces arguments = insts.Call to function arguments.operands
called to (callees.External call) pieces arguments =
    insts.External to (extern_of call arguments.held pieces) arguments.operands
called to (callees.Refused cause) pieces arguments = insts.Unreachable

-- ---- what is wrong with a call

abbrev pub refusal_of : Callee → Option Cause
refusal_of (callees.Refused cause) = Some cause
refusal_of (callees.Function number) = None
refusal_of (callees.External call) = None

-- what can't be called has no parameters of its own
abbrev pub fits_by : ModuleNames → Callee → List Told → Bool
fits_by names (callees.Function number) types = may_write false types (function_parameters names number)
fits_by names (callees.External call) types = may_write (calls.is_variadic call) types (calls.parameters_of call)
fits_by names (callees.Refused cause) types = true

abbrev pub fits_if : ModuleNames → Callee → Option (List Told) → Bool
fits_if names callee (Some types) = fits_by names callee (inside_of types)
fits_if names callee None = true

-- the types of the parameters may be written or left out
abbrev pub fits_written : ModuleNames → Head → Bool
fits_written names head = fits_if names head.callee head.written

-- the result is the callee's, `void` has no name, and the written types are the callee's
abbrev pub head_cause : ModuleNames → Head → Bool → Option Cause
head_cause names head is_named =
    lesser (refusal_of head.callee)
    (unless (same_result head.result (due_result names head.callee head.result)
    && ((not is_named || is_some head.result) && fits_written names head)) TypeMismatch)

-- further arguments are good where the format isn't known, and of what can't be called
abbrev pub is_open : Callee → Option (List Piece) → Bool
is_open callee pieces = is_none pieces || is_some (refusal_of callee)

-- the register that a call sets, where it gives something
abbrev pub target : Option Kind → ℕ → Option ℕ
target (Some kind) to = Some to
target None to = None

abbrev pub arguments_for : Scope → Callee → Option (List Piece) → List (List Told) → Arguments
arguments_for scope callee pieces phrases =
    arguments_of scope (is_open callee pieces) (parameters_of scope.names callee pieces) phrases

abbrev pub finished : ModuleNames → ℕ → Bool → Head → Option (List Piece) → Arguments → Found Inst
finished names to is_named head pieces arguments = record {
  value = called (target head.result to) head.callee pieces arguments;
  cause = lesser (head_cause names head is_named) (lesser (unless (is_some pieces) Unsupported) arguments.cause);
}

abbrev pub call_with : Scope → ℕ → Bool → Head → Option (List Piece) → List (List Told) → Found Inst
call_with scope to is_named head pieces phrases =
    finished scope.names to is_named head pieces (arguments_for scope head.callee pieces phrases)

-- `TYPE CALLEE(TYPE OPERAND, ..)`, with the types of the parameters before the callee or without
abbrev pub call : Scope → ℕ → Bool → List Told → Found Inst
call scope to is_named operands =
    let phrases = phrases_of operands in
    let head = head_of scope.names phrases in
    call_with scope to is_named head (pieces_for scope.names head.callee (arguments_in phrases)) (arguments_in phrases)
