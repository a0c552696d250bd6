-- A call fits: what it calls and starts is there, and its arguments are in range.
use Rattle.std.proofs.Common.{◌≡◌, ℕ, ◌<◌, Bool, true, false, List, [], ◌∷◌, drop, All, Option, Some, None, option_and_then, slice_get, position, bytes_eq, refl}
use Rattle.std.specs.List.{AllByRecursion}
use Rattle.std.proofs.lemmas.List.Elements.{All-nil, All-push}
use Rattle.external_calls.specs.declared.call.ExternalCall.{ExternalCall}
use Rattle.external_calls.specs.declared.call.ExternalCall.TheVariants as c
use Rattle.external_calls.specs.declared.prototype.Parameter.{Parameter}
use Rattle.external_calls.specs.declared.prototype.Parameter.TheVariants as p
use Rattle.external_calls.specs.Prototype as calls
use Rattle.ir_read.specs.Name.{name_of}
use Rattle.ir_read.specs.Node.{Told}
use Rattle.ir_types.specs.declared.external.Piece.{Piece}
use Rattle.ir_types.specs.declared.word.Kind.{Kind}
use Rattle.module_fault.specs.declared.cause.Found.{Found}
use Rattle.instruction_check.specs.declared.roles.GlobalRole.{GlobalRole}
use Rattle.instruction_check.specs.declared.roles.GlobalRole.TheVariants as globals
use Rattle.instruction_check.specs.declared.scope.ModuleNames.{ModuleNames}
use Rattle.instruction_check.specs.Operand.{operand}
use Rattle.instruction_check.specs.Phrases.{second, third, kind_in}
use Rattle.instruction_check.specs.Scope.{Scope, global_role}
use Rattle.call_check.specs.declared.arguments.Argument.{Argument}
use Rattle.call_check.specs.declared.arguments.Argument.TheVariants.{Value, Held}
use Rattle.call_check.specs.declared.arguments.Arguments.{Arguments}
use Rattle.call_check.specs.declared.callee.Callee.{Callee}
use Rattle.call_check.specs.declared.callee.Callee.TheVariants as callees
use Rattle.call_check.specs.Arguments as arguments
use Rattle.call_check.specs.Call as call
use Rattle.call_check.specs.Callee as callee
use Rattle.module_check.specs.Within.{IsItem}
use Rattle.module_build.specs.Ranges.{AreIn, Fits, IsIn, IsSet, IsStarted, Room}
use Rattle.module_build.proofs.Choice.{either}
use Rattle.module_build.proofs.OperandFits.{Stands, operand_in, role_there}

-- ---- calls

-- what a call calls is there, where it is a function
abbrev IsCalled : Room → Callee → Type 0
IsCalled room (callees.Function number) = number < room.functions
IsCalled room (callees.External name) = Unit {0}
IsCalled room (callees.Refused cause) = Unit {0}

callee_role : (room : Room) (all : ℕ) (roles : List GlobalRole) (place : ℕ) (role : Option GlobalRole) →
    AllByRecursion (IsItem all room.functions) roles → slice_get roles place ≡ role → IsCalled room (callee.callee_of role)
callee_role room all roles place (Some (globals.Function number)) stand is =
    role_there (IsItem all room.functions) roles place (globals.Function number) stand is
callee_role room all roles place (Some (globals.Declared (Some name))) stand is = tt
callee_role room all roles place (Some (globals.Declared None)) stand is = tt
callee_role room all roles place (Some (globals.Global number)) stand is = tt
callee_role room all roles place None stand is = tt

callee_at : (room : Room) (all : ℕ) (roles : List GlobalRole) (place : Option ℕ) → AllByRecursion (IsItem all room.functions) roles →
    IsCalled room (callee.callee_of (option_and_then (slice_get roles) place))
callee_at room all roles None stand = tt
callee_at room all roles (Some place) stand = callee_role room all roles place (slice_get roles place) stand refl

callee_there : (room : Room) (scope : Scope) (phrase : List Told) → Stands room scope → IsCalled room (callee.callee_in scope.names phrase)
callee_there room scope [] stands = tt
callee_there room scope (node ∷ rest) stands =
    callee_at room stands.globals scope.names.roles (position (bytes_eq (name_of node.terminal node.text)) scope.names.table) stands.items

pub head_there : (room : Room) (scope : Scope) (written : Bool) (phrases : List (List Told)) → Stands room scope → callee.is_written (second phrases) ≡ written →
    IsCalled room (callee.head_of scope.names phrases).callee
head_there room scope true phrases stands is = rw is (callee_there room scope (third phrases) stands)
head_there room scope false phrases stands is = rw is (callee_there room scope (second phrases) stands)

-- the function that a call holds, where it can hold no other number
abbrev HoldsFunctions : Parameter → Bool
HoldsFunctions p.Slot = false
HoldsFunctions _ = true

abbrev IsArgument : Room → Argument → Type 0
IsArgument room (Value operand) = IsIn room operand
IsArgument room (Held number) = Unit {0}

abbrev IsHeld : Room → Argument → Type 0
IsHeld room (Value operand) = Unit {0}
IsHeld room (Held number) = number < room.functions

routine_role : (room : Room) (all : ℕ) (names : ModuleNames) (roles : List GlobalRole) (place : ℕ) (role : Option GlobalRole) → 0 < room.functions →
    AllByRecursion (IsItem all room.functions) roles → slice_get roles place ≡ role → IsHeld room (arguments.routine_by names role).value
routine_role room all names roles place (Some (globals.Function number)) some stand is =
    role_there (IsItem all room.functions) roles place (globals.Function number) stand is
routine_role room all names roles place (Some (globals.Global number)) some stand is = some
routine_role room all names roles place (Some (globals.Declared name)) some stand is = some
routine_role room all names roles place None some stand is = some

routine_at : (room : Room) (all : ℕ) (names : ModuleNames) (roles : List GlobalRole) (place : Option ℕ) → 0 < room.functions →
    AllByRecursion (IsItem all room.functions) roles → IsHeld room (arguments.routine_by names (option_and_then (slice_get roles) place)).value
routine_at room all names roles None some stand = some
routine_at room all names roles (Some place) some stand = routine_role room all names roles place (slice_get roles place) some stand refl

routine_there : (room : Room) (scope : Scope) (kind : Kind) (phrase : List Told) → Stands room scope → IsHeld room (arguments.routine scope kind phrase).value
routine_there room scope kind [] stands = stands.some_function
routine_there room scope kind (node ∷ rest) stands =
    either (λ (found : Found Argument). IsHeld room found.value) (arguments.is_global node.terminal) (arguments.routine_of scope.names node)
    (arguments.held scope 0 _ kind (node ∷ rest))
    (routine_at room stands.globals scope.names scope.names.roles (position (bytes_eq (name_of node.terminal node.text)) scope.names.table) stands.some_function stands.items)
    stands.some_function

routine_by_argument : (room : Room) (names : ModuleNames) (role : Option GlobalRole) → IsArgument room (arguments.routine_by names role).value
routine_by_argument room names (Some (globals.Function number)) = tt
routine_by_argument room names (Some (globals.Global number)) = tt
routine_by_argument room names (Some (globals.Declared name)) = tt
routine_by_argument room names None = tt

taken_in : (room : Room) (scope : Scope) (parameter : Parameter) (kind : Kind) (phrase : List Told) → Stands room scope →
    IsArgument room (arguments.taken scope parameter kind phrase).value
taken_in room scope (p.Value given) kind phrase stands = operand_in room scope kind phrase stands
taken_in room scope p.StartRoutine kind [] stands = tt
taken_in room scope p.StartRoutine kind (node ∷ rest) stands =
    either (λ (found : Found Argument). IsArgument room found.value) (arguments.is_global node.terminal) (arguments.routine_of scope.names node)
    (arguments.held scope 0 _ kind (node ∷ rest)) (routine_by_argument room scope.names (global_role scope.names node)) tt
taken_in room scope p.Format kind phrase stands = tt
taken_in room scope p.Slot kind [] stands = tt
taken_in room scope p.Slot kind (node ∷ rest) stands =
    either (λ (found : Found Argument). IsArgument room found.value) (arguments.is_number node.terminal node.text)
    (arguments.held scope (arguments.slot_of node.text) None kind (node ∷ rest)) (arguments.held scope 0 _ kind (node ∷ rest)) tt tt

argument_in : (room : Room) (scope : Scope) (is_open : Bool) (parameters : List Parameter) (kind : Kind) (phrase : List Told) → Stands room scope →
    IsArgument room (arguments.argument_for scope is_open parameters kind phrase).value
argument_in room scope is_open [] kind phrase stands = operand_in room scope kind phrase stands
argument_in room scope is_open (parameter ∷ parameters) kind phrase stands = taken_in room scope parameter kind phrase stands

put_in : (room : Room) (done : Arguments) (found : Found Argument) (argument : Argument) → found.value ≡ argument → IsArgument room argument →
    AreIn room done.operands → AreIn room (arguments.and_argument done found).operands
put_in room done found (Value operand) is here are = rw is (All-push (IsIn room) done.operands operand are here)
put_in room done found (Held number) is here are = rw is are

arguments_in : (room : Room) (scope : Scope) (is_open : Bool) (parameters : List Parameter) (done : Arguments) (phrases : List (List Told)) →
    Stands room scope → AreIn room done.operands → AreIn room (arguments.arguments_from scope is_open parameters done phrases).operands
arguments_in room scope is_open parameters done [] stands are = are
arguments_in room scope is_open parameters done (written ∷ []) stands are = are
arguments_in room scope is_open parameters done (written ∷ phrase ∷ phrases) stands are =
    let found = arguments.argument_for scope is_open parameters (kind_in written) phrase in
    arguments_in room scope is_open (drop 1 parameters) (arguments.and_argument done found) phrases stands
    (put_in room done found found.value refl (argument_in room scope is_open parameters (kind_in written) phrase stands) are)

-- ---- what a call holds

abbrev HoldFunctions : List Parameter → Type 0
HoldFunctions parameters = AllByRecursion (λ parameter. HoldsFunctions parameter ≡ true) parameters

held_taken : (room : Room) (scope : Scope) (parameter : Parameter) (kind : Kind) (phrase : List Told) → Stands room scope →
    HoldsFunctions parameter ≡ true → IsHeld room (arguments.taken scope parameter kind phrase).value
held_taken room scope (p.Value given) kind phrase stands holds = tt
held_taken room scope p.StartRoutine kind phrase stands holds = routine_there room scope kind phrase stands
held_taken room scope p.Format kind phrase stands holds = stands.some_function
held_taken room scope p.Slot kind phrase stands holds = cc

held_argument : (room : Room) (scope : Scope) (is_open : Bool) (parameters : List Parameter) (kind : Kind) (phrase : List Told) → Stands room scope →
    HoldFunctions parameters → IsHeld room (arguments.argument_for scope is_open parameters kind phrase).value
held_argument room scope is_open [] kind phrase stands holds = tt
held_argument room scope is_open (parameter ∷ parameters) kind phrase stands (here, holds) = held_taken room scope parameter kind phrase stands here

held_put : (room : Room) (done : Arguments) (found : Found Argument) (argument : Argument) → found.value ≡ argument → IsHeld room argument →
    done.held < room.functions → (arguments.and_argument done found).held < room.functions
held_put room done found (Value operand) is here held = rw is held
held_put room done found (Held number) is here held = rw is here

dropped : (parameters : List Parameter) → HoldFunctions parameters → HoldFunctions (drop 1 parameters)
dropped [] holds = tt
dropped (parameter ∷ parameters) (here, holds) = holds

held_in : (room : Room) (scope : Scope) (is_open : Bool) (parameters : List Parameter) (done : Arguments) (phrases : List (List Told)) →
    Stands room scope → HoldFunctions parameters → done.held < room.functions →
    (arguments.arguments_from scope is_open parameters done phrases).held < room.functions
held_in room scope is_open parameters done [] stands holds held = held
held_in room scope is_open parameters done (written ∷ []) stands holds held = held
held_in room scope is_open parameters done (written ∷ phrase ∷ phrases) stands holds held =
    let found = arguments.argument_for scope is_open parameters (kind_in written) phrase in
    held_in room scope is_open (drop 1 parameters) (arguments.and_argument done found) phrases stands (dropped parameters holds)
    (held_put room done found found.value refl (held_argument room scope is_open parameters (kind_in written) phrase stands holds) held)

kind_holds : (kind : Option Kind) (parameters : List Parameter) → HoldFunctions parameters → HoldFunctions (call.parameter_if kind parameters)
kind_holds None parameters holds = holds
kind_holds (Some kind) parameters holds = (refl, holds)

pieces_hold : (pieces : List Piece) → HoldFunctions (call.parameters_in pieces)
pieces_hold [] = tt
pieces_hold (piece ∷ pieces) = kind_holds _ (call.parameters_in pieces) (pieces_hold pieces)

create_holds : (pieces : Option (List Piece)) → HoldFunctions (call.external_parameters c.Create pieces)
unfolding calls.parameters_of
create_holds None = (refl, (refl, (refl, (refl, tt))))
create_holds (Some pieces) = (refl, (refl, (refl, (refl, pieces_hold pieces))))

printf_started : (room : Room) (pieces : Option (List Piece)) → IsStarted room (call.printf pieces)
printf_started room (Some pieces) = tt
printf_started room None = tt

started : (room : Room) (name : ExternalCall) (held : ℕ) (pieces : Option (List Piece)) → (name ≡ c.Create → held < room.functions) →
    IsStarted room (call.extern_of name held pieces)
unfolding calls.extern_of
started room c.Create held pieces is = is refl
started room c.Printf held pieces is = printf_started room pieces
started room _ held pieces is = tt

pub called_fits : (room : Room) (scope : Scope) (to : Option ℕ) (callee : Callee) (pieces : Option (List Piece)) (phrases : List (List Told)) →
    Stands room scope → IsSet room to → IsCalled room callee →
    Fits room (call.called to callee pieces (call.arguments_for scope callee pieces phrases))
called_fits room scope to (callees.Function number) pieces phrases stands sets is =
    (sets, is, arguments_in room scope _ _ _ phrases stands (All-nil (IsIn room)))
called_fits room scope to (callees.External name) pieces phrases stands sets is = (
  sets,
  started room name _ pieces (λ same. held_in room scope _ _ _ phrases stands (rw same (create_holds pieces)) stands.some_function),
  arguments_in room scope _ _ _ phrases stands (All-nil (IsIn room)),
)
called_fits room scope to (callees.Refused cause) pieces phrases stands sets is = tt
