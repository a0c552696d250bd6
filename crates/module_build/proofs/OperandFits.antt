-- Operands, addresses, edges and cases are in range where the names of a scope stand for what is there.
use Rattle.std.proofs.Common.{◌≡◌, ℕ, ◌+◌, ◌<◌, List, [], ◌∷◌, ◌++◌, All, Option, Some, None, option_and_then, slice_get, position, refl}
use Rattle.std.specs.List.{AllByRecursion}
use Rattle.std.proofs.lemmas.List.Elements.{All-from_recursion, All-nil, All-push}
use Rattle.address_path.specs.declared.index.Index.{Index}
use Rattle.address_path.specs.Path as path
use Rattle.address_path.specs.Path.{Path}
use Rattle.ir_names.specs.LocalName.{local_eq, local_of}
use Rattle.ir_read.specs.declared.raw_type.TypeForm.{TypeForm}
use Rattle.ir_read.specs.declared.raw_type.TypeForm.TheVariants as type_forms
use Rattle.ir_read.specs.declared.terminal.Terminal.{Terminal}
use Rattle.ir_read.specs.declared.terminal.Terminal.TheVariants as t
use Rattle.ir_read.specs.Node.{Told}
use Rattle.ir_types.specs.declared.instruction.Operand.{Operand}
use Rattle.ir_types.specs.declared.instruction.Operand.TheVariants.{Register, Constant}
use Rattle.ir_types.specs.declared.word.Kind.{Kind}
use Rattle.ir_types.specs.declared.word.Word.{Word}
use Rattle.module_fault.specs.declared.cause.Found.{Found}
use Rattle.module_fault.specs.Cause.{and_one}
use Rattle.instruction_check.specs.declared.roles.LocalRole.{LocalRole}
use Rattle.instruction_check.specs.declared.roles.LocalRole.TheVariants as locals
use Rattle.instruction_check.specs.Address.{count_of, index_at, indices_from}
use Rattle.instruction_check.specs.Control.{case_at, cases_from, edge_at, edges_from}
use Rattle.instruction_check.specs.Operand.{block_of, operand, operand_by, plain_by, typed}
use Rattle.instruction_check.specs.Phrases.{first, second, kind_in}
use Rattle.instruction_check.specs.Roles as uses
use Rattle.instruction_check.specs.Scope.{Scope}
use Rattle.struct_table.specs.Members.{Member}
use Rattle.struct_table.specs.StructTable.{Structs}
use Rattle.machine_model.proofs.Places.{All-slice_get}
use Rattle.module_check.specs.Within.{IsItem, IsLocal}
use Rattle.module_build.specs.Ranges.{IsCase, IsEdge, IsIn, IsScaled, Room}

-- the names of a scope stand for what is there
pub record Stands (room : Room) (scope : Scope) : Type 0 where
  pub globals : ℕ
  pub items : AllByRecursion (IsItem globals room.functions) scope.names.roles
  pub locals : AllByRecursion (IsLocal room.registers room.blocks) scope.body.roles
  pub some_function : 0 < room.functions
  pub some_block : 0 < room.blocks

-- ---- what a name stands for

pub role_there : {X : Type 0} (P : X → Type 0) (roles : List X) (place : ℕ) (role : X) → AllByRecursion P roles →
    slice_get roles place ≡ Some role → P role
role_there P roles place role stand is = All-slice_get P roles place role (All-from_recursion P roles stand) is

register_role : (room : Room) (roles : List LocalRole) (place : ℕ) (kind : Kind) (role : Option LocalRole) →
    AllByRecursion (IsLocal room.registers room.blocks) roles → slice_get roles place ≡ role → IsIn room (uses.register kind role).value
register_role room roles place kind (Some (locals.Register number given is_output)) stand is =
    role_there (IsLocal room.registers room.blocks) roles place (locals.Register number given is_output) stand is
register_role room roles place kind (Some (locals.Block number)) stand is = tt
register_role room roles place kind (Some locals.Void) stand is = tt
register_role room roles place kind None stand is = tt

register_at : (room : Room) (roles : List LocalRole) (kind : Kind) (place : Option ℕ) → AllByRecursion (IsLocal room.registers room.blocks) roles →
    IsIn room (uses.register kind (option_and_then (slice_get roles) place)).value
register_at room roles kind None stand = tt
register_at room roles kind (Some place) stand = register_role room roles place kind (slice_get roles place) stand refl

block_role : (room : Room) (roles : List LocalRole) (place : ℕ) (role : Option LocalRole) → 0 < room.blocks →
    AllByRecursion (IsLocal room.registers room.blocks) roles → slice_get roles place ≡ role → (uses.block role).value < room.blocks
block_role room roles place (Some (locals.Block number)) some stand is =
    role_there (IsLocal room.registers room.blocks) roles place (locals.Block number) stand is
block_role room roles place (Some (locals.Register number given is_output)) some stand is = some
block_role room roles place (Some locals.Void) some stand is = some
block_role room roles place None some stand is = some

block_at : (room : Room) (roles : List LocalRole) (place : Option ℕ) → 0 < room.blocks → AllByRecursion (IsLocal room.registers room.blocks) roles →
    (uses.block (option_and_then (slice_get roles) place)).value < room.blocks
block_at room roles None some stand = some
block_at room roles (Some place) some stand = block_role room roles place (slice_get roles place) some stand refl

pub block_there : (room : Room) (scope : Scope) (phrase : List Told) → Stands room scope → (block_of scope phrase).value < room.blocks
block_there room scope [] stands = stands.some_block
block_there room scope (node ∷ rest) stands =
    block_at room scope.body.roles (position (local_eq (local_of node.terminal node.text)) scope.body.table) stands.some_block stands.locals

-- ---- operands

plain_in : (room : Room) (scope : Scope) (kind : Kind) (node : Told) (terminal : Terminal) → Stands room scope →
    IsIn room (plain_by scope kind node terminal).value
plain_in room scope kind node t.Local stands =
    register_at room scope.body.roles kind (position (local_eq (local_of node.terminal node.text)) scope.body.table) stands.locals
plain_in room scope kind node t.Global stands = tt
plain_in room scope kind node t.OddGlobal stands = tt
plain_in room scope kind node _ stands = tt

operand_by_in : (room : Room) (terminal : Terminal) (scope : Scope) (kind : Kind) (node : Told) (rest : List Told) → Stands room scope →
    IsIn room (operand_by terminal scope kind (node ∷ rest)).value
operand_by_in room t.GetElementPtr scope kind node rest stands = tt
operand_by_in room t.IntToPtr scope kind node rest stands = tt
operand_by_in room _ scope kind node rest stands = plain_in room scope kind node node.terminal stands

pub operand_in : (room : Room) (scope : Scope) (kind : Kind) (phrase : List Told) → Stands room scope → IsIn room (operand scope kind phrase).value
operand_in room scope kind [] stands = tt
operand_in room scope kind (node ∷ rest) stands = operand_by_in room node.terminal scope kind node rest stands

pub typed_in : (room : Room) (scope : Scope) (phrases : List (List Told)) → Stands room scope → IsIn room (typed scope phrases).value
typed_in room scope phrases stands = operand_in room scope (kind_in (first phrases)) (second phrases) stands

-- ---- addresses

counted_in : (room : Room) (unit : ℕ) (value : Operand) (at : Path) → IsIn room value → All (IsScaled room) at.scaled →
    All (IsScaled room) (path.counted unit value at).scaled
counted_in room unit (Constant word) at is are = are
counted_in room unit (Register number) at is are = All-push (IsScaled room) at.scaled (Register number, unit) are is

entered_in : (room : Room) (member : Option Member) (at : Path) → All (IsScaled room) at.scaled → All (IsScaled room) (path.entered member at).scaled
entered_in room (Some member) at are = are
entered_in room None at are = are

chosen_in : (room : Room) (members : List Member) (value : Operand) (at : Path) → All (IsScaled room) at.scaled →
    All (IsScaled room) (path.chosen members value at).scaled
chosen_in room members (Constant word) at are = entered_in room (slice_get members (path.extended word)) at are
chosen_in room members (Register number) at are = are

into_in : (room : Room) (form : TypeForm) (structs : Structs) (value : Operand) (at : Path) → IsIn room value → All (IsScaled room) at.scaled →
    All (IsScaled room) (path.into_by form structs value at).scaled
into_in room (type_forms.Array count) structs value at is are = counted_in room _ value at is are
into_in room _ structs value at is are = chosen_in room (path.fields_of structs at.place) value at are

abbrev IsIndex : Room → Index → Type 0
IsIndex room index = IsIn room index.value

path_in : (room : Room) (structs : Structs) (at : Path) (indices : List Index) → AllByRecursion (IsIndex room) indices →
    All (IsScaled room) at.scaled → All (IsScaled room) (path.path_from structs at indices).scaled
path_in room structs at [] is are = are
path_in room structs at (index ∷ indices) (here, is) are =
    path_in room structs (path.gone_by structs index at) indices is (into_in room _ structs index.value at here are)

pub whole_path_in : (room : Room) (structs : Structs) (nodes : List Told) (indices : List Index) → AllByRecursion (IsIndex room) indices →
    All (IsScaled room) (path.path_of structs nodes indices).scaled
whole_path_in room structs nodes [] is = All-nil (IsScaled room)
whole_path_in room structs nodes (index ∷ indices) (here, is) =
    path_in room structs (path.begun_by structs index (path.begun nodes)) indices is
    (counted_in room _ index.value (path.begun nodes) here (All-nil (IsScaled room)))

one_more : {X : Type 0} (P : X → Type 0) (xs : List X) (x : X) → AllByRecursion P xs → P x → AllByRecursion P (xs ++ x ∷ [])
one_more P [] x all here = (here, tt)
one_more P (first ∷ xs) x (at_first, all) here = (at_first, one_more P xs x all here)

pub indices_in : (room : Room) (scope : Scope) (done : List Index) (phrases : List (List Told)) → Stands room scope →
    AllByRecursion (IsIndex room) done → AllByRecursion (IsIndex room) (indices_from scope done phrases)
indices_in room scope done [] stands is = is
indices_in room scope done (written ∷ []) stands is = is
indices_in room scope done (written ∷ phrase ∷ phrases) stands is =
    indices_in room scope (done ++ index_at scope written phrase ∷ []) phrases stands
    (one_more (IsIndex room) done (index_at scope written phrase) is (operand_in room scope (kind_in written) phrase stands))

pub count_in : (room : Room) (scope : Scope) (phrases : List (List Told)) → Stands room scope → IsIn room (count_of scope phrases).value
count_in room scope [] stands = tt
count_in room scope (written ∷ phrases) stands = operand_in room scope (kind_in written) (first phrases) stands

-- ---- edges and cases

pub edges_in : (room : Room) (scope : Scope) (kind : Kind) (done : Found (List (ℕ × Operand))) (phrases : List (List Told)) → Stands room scope →
    All (IsEdge room) done.value → All (IsEdge room) (edges_from scope kind done phrases).value
edges_in room scope kind done [] stands is = is
edges_in room scope kind done (value ∷ []) stands is = is
edges_in room scope kind done (value ∷ block ∷ phrases) stands is =
    edges_in room scope kind (and_one done (edge_at scope kind value block)) phrases stands
    (All-push (IsEdge room) done.value (edge_at scope kind value block).value is (block_there room scope block stands, operand_in room scope kind value stands))

pub cases_in : (room : Room) (scope : Scope) (kind : Kind) (done : Found (List (Word × ℕ))) (phrases : List (List Told)) → Stands room scope →
    All (IsCase room) done.value → All (IsCase room) (cases_from scope kind done phrases).value
cases_in room scope kind done [] stands is = is
cases_in room scope kind done (written ∷ []) stands is = is
cases_in room scope kind done (written ∷ literal ∷ []) stands is = is
cases_in room scope kind done (written ∷ literal ∷ block ∷ phrases) stands is =
    cases_in room scope kind (and_one done (case_at scope kind written literal block)) phrases stands
    (All-push (IsCase room) done.value (case_at scope kind written literal block).value is (block_there room scope block stands))
