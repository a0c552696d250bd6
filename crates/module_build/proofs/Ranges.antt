-- The numbers of an accepted module are in range.
use Rattle.std.proofs.Common.{◌≡◌, ◌∙◌, ℕ, ◌+◌, ◌<◌, ◌≤◌, Bool, true, false, not, List, [], ◌∷◌, ◌++◌, length, length-append, All, Option, Some, None, IfOk, option_and_then, slice_get, position, bytes_eq, codes, ap, refl, subst, sym, arith, if◌then◌else◌}
use Rattle.std.specs.List.{AllByRecursion}
use Rattle.std.proofs.lemmas.List.Elements.{All-append, All-cons, All-nil, All-push}
use Rattle.ir_types.specs.declared.instruction.Inst.{Inst}
use Rattle.ir_types.specs.declared.word.Kind.{Kind}
use Rattle.ir_types.specs.declared.«module».Function.{Function}
use Rattle.ir_read.specs.Node.{Told}
use Rattle.ir_items.specs.declared.item.ItemForm.{ItemForm}
use Rattle.ir_items.specs.declared.item.ItemForm.TheVariants as forms
use Rattle.ir_items.specs.declared.segment.Cut.TheVariants as cuts
use Rattle.ir_items.specs.Item.{Parameter, body_of, form_of, parameters_of, result_type_of}
use Rattle.ir_items.specs.Segment.{Segment, segments_of}
use Rattle.ir_items.specs.Statement.{Statement, is_label, statements_of}
use Rattle.module_fault.specs.declared.fault.Fault.{Fault}
use Rattle.instruction_check.specs.declared.roles.LocalRole.{LocalRole}
use Rattle.instruction_check.specs.declared.roles.LocalRole.TheVariants as locals
use Rattle.instruction_check.specs.declared.scope.ModuleNames.{ModuleNames}
use Rattle.instruction_check.specs.Literals.{kind_of}
use Rattle.instruction_check.specs.Results.{result_of}
use Rattle.instruction_check.specs.Scope.{Scope}
use Rattle.struct_table.specs.StructTable.{Structs, structs_of}
use Rattle.module_check.specs.declared.body_names.NamedBody.{NamedBody}
use Rattle.module_check.specs.BodyNames as bodies
use Rattle.module_check.specs.ItemNames as items
use Rattle.module_check.specs.MainFunction.{main_of}
use Rattle.module_check.specs.Names.{or_no_main}
use Rattle.module_check.specs.Signature.{result_kind}
use Rattle.module_check.specs.Within.{IsItem, IsLocal, StandForItems, StandForLocals}
use Rattle.module_build.specs.declared.body.BuiltBody.{BuiltBody}
use Rattle.module_build.specs.declared.checked.Parts.{Parts}
use Rattle.module_build.specs.declared.functions.BuiltFunctions.{BuiltFunctions}
use Rattle.module_build.specs.Body.{block, blocks_with, built, built_from, none_built, registers_with, with_statement}
use Rattle.module_build.specs.Checked.{checked_module, module_by, parts_of}
use Rattle.module_build.specs.Function.{function_of, kinds_from, kinds_of, scope_of}
use Rattle.module_build.specs.Functions.{functions_from, with_form}
use Rattle.module_build.specs.Functions as functions
use Rattle.module_build.specs.Instruction.{instruction}
use Rattle.module_build.specs.Ranges.{AreInRange, Fits, HasRoomFor, IsInRange, Room, room_of}
use Rattle.module_build.proofs.Fits.{Sets, instruction_fits}
use Rattle.module_build.proofs.OperandFits.{Stands}
use Rattle.module_build.proofs.Main.{as_many, in_roles, lacks_main}
use Rattle.module_build.proofs.Whole.{ends_open, has_block}

-- ---- how many blocks there are

abbrev open_blocks : Bool → ℕ
open_blocks true = 1
open_blocks false = 0

length_with : (is_open : Bool) (done : BuiltBody) → done.is_open ≡ is_open → length (blocks_with done) ≡ length done.blocks + open_blocks is_open
length_with true done is = rw is (length-append done.blocks (block done.start done.insts ∷ []))
length_with false done is = rw is (omega arith)

-- the names and the blocks of a body, as far as they have come
record Beside (named : NamedBody) (done : BuiltBody) : Type 0 where
  registers : done.registers ≤ length named.registers
  blocks : named.blocks ≤ length done.blocks + open_blocks done.is_open

given_beside : (names : ModuleNames) (named : NamedBody) (statement : Statement) (kind : Option Kind) →
    (bodies.with_result names named statement kind).blocks ≡ named.blocks
given_beside names named statement (Some kind) = refl
given_beside names named statement None = void statement.result
  where
    void : (name : Option Told) → (bodies.with_void statement.line named name).blocks ≡ named.blocks
    void None = refl
    void (Some node) = refl

-- a result is a register more
registers_given : (names : ModuleNames) (named : NamedBody) (statement : Statement) (kind : Option Kind) (set : ℕ) → set ≤ length named.registers →
    registers_with set kind ≤ length (bodies.with_result names named statement kind).registers
registers_given names named statement (Some kind) set few = omega (arith, length-append named.registers (kind ∷ []))
registers_given names named statement None set few = void statement.result
  where
    void : (name : Option Told) → set ≤ length (bodies.with_void statement.line named name).registers
    void None = few
    void (Some node) = few

beside_more : (names : ModuleNames) (scope : Scope) (named : NamedBody) (done : BuiltBody) (statement : Statement) (label : Bool) → is_label statement ≡ label →
    Beside named done → Beside (bodies.with_statement names named statement) (with_statement scope done statement)
beside_more names scope named done statement true begins is = rw begins (record {
  registers = is.registers;
  blocks = omega (arith, is.blocks, length_with done.is_open done refl);
})
beside_more names scope named done statement false begins is = rw begins (record {
  registers = registers_given names named statement (result_of statement) done.registers is.registers;
  blocks = omega (arith, is.blocks, given_beside names named statement (result_of statement));
})

beside : (names : ModuleNames) (scope : Scope) (named : NamedBody) (done : BuiltBody) (statements : List Statement) → Beside named done →
    Beside (bodies.with_statements names named statements) (built_from scope done statements)
beside names scope named done [] is = is
beside names scope named done (statement ∷ statements) is =
    beside names scope (bodies.with_statement names named statement) (with_statement scope done statement) statements
    (beside_more names scope named done statement (is_label statement) refl is)

-- ---- registers grow

grows_by : (names : ModuleNames) (named : NamedBody) (statement : Statement) (label : Bool) → is_label statement ≡ label →
    length named.registers ≤ length (bodies.with_statement names named statement).registers
grows_by names named statement true begins = rw begins (omega arith)
grows_by names named statement false begins =
    rw begins (omega (arith, counted (result_of statement)))
  where
    void : (name : Option Told) → length named.registers ≤ length (bodies.with_void statement.line named name).registers
    void None = omega arith
    void (Some node) = omega arith

    counted : (kind : Option Kind) → length named.registers ≤ length (bodies.with_result names named statement kind).registers
    counted (Some kind) = omega (arith, length-append named.registers (kind ∷ []))
    counted None = void statement.result

grows : (names : ModuleNames) (named : NamedBody) (statements : List Statement) →
    length named.registers ≤ length (bodies.with_statements names named statements).registers
grows names named [] = omega arith
grows names named (statement ∷ statements) =
    omega (arith, grows_by names named statement (is_label statement) refl, grows names (bodies.with_statement names named statement) statements)

-- ---- the instructions of a body

record Fitting (room : Room) (done : BuiltBody) : Type 0 where
  blocks : All (HasRoomFor room) done.blocks
  insts : All (Fits room) done.insts

fitting_blocks : (room : Room) (is_open : Bool) (done : BuiltBody) → done.is_open ≡ is_open → Fitting room done → All (HasRoomFor room) (blocks_with done)
fitting_blocks room true done is fit = rw is (All-push (HasRoomFor room) done.blocks (block done.start done.insts) fit.blocks fit.insts)
fitting_blocks room false done is fit = rw is fit.blocks

-- the register that an instruction sets is there once its name is
set_there : (room : Room) (names : ModuleNames) (named : NamedBody) (statement : Statement) (kind : Option Kind) (set : ℕ) → set ≤ length named.registers →
    length (bodies.with_result names named statement kind).registers ≤ room.registers → Sets room (items.numbered set) kind
set_there room names named statement (Some kind) set few most = omega (arith, length-append named.registers (kind ∷ []))
set_there room names named statement None set few most = tt

fitting_more : (room : Room) (names : ModuleNames) (scope : Scope) (named : NamedBody) (done : BuiltBody) (statement : Statement) (label : Bool) →
    is_label statement ≡ label → Stands room scope → Beside named done → length (bodies.with_statement names named statement).registers ≤ room.registers →
    Fitting room done → Fitting room (with_statement scope done statement)
fitting_more room names scope named done statement true begins stands is most fit = rw begins (record {
  blocks = fitting_blocks room done.is_open done refl fit;
  insts = All-nil (Fits room);
})
fitting_more room names scope named done statement false begins stands is most fit =
    let given : length (bodies.with_result names named statement (result_of statement)).registers ≤ room.registers = rw begins at most in
    rw begins (record {
      blocks = fit.blocks;
      insts =
          All-push (Fits room) done.insts (instruction scope (items.numbered done.registers) statement).value fit.insts
          (instruction_fits room scope (items.numbered done.registers) statement stands
          (set_there room names named statement (result_of statement) done.registers is.registers given));
    })

fitting : (room : Room) (names : ModuleNames) (scope : Scope) (named : NamedBody) (done : BuiltBody) (statements : List Statement) →
    Stands room scope → Beside named done → length (bodies.with_statements names named statements).registers ≤ room.registers →
    Fitting room done → Fitting room (built_from scope done statements)
fitting room names scope named done [] stands is most fit = fit
fitting room names scope named done (statement ∷ statements) stands is most fit =
    let next = bodies.with_statement names named statement in
    let few : length next.registers ≤ room.registers = omega (arith, grows names next statements) in
    fitting room names scope next (with_statement scope done statement) statements stands
    (beside_more names scope named done statement (is_label statement) refl is) most
    (fitting_more room names scope named done statement (is_label statement) refl stands is few fit)

-- ---- a function

record Argued (named : NamedBody) (kinds : List Kind) : Type 0 where
  registers : length kinds ≡ length named.registers
  blocks : named.blocks ≡ 0

argued : (line : ℕ) (named : NamedBody) (kinds : List Kind) (parameters : List Parameter) → Argued named kinds →
    Argued (bodies.with_parameters line named parameters) (kinds_from kinds parameters)
argued line named kinds [] is = is
argued line named kinds (parameter ∷ parameters) is =
    argued line (bodies.with_register line named parameter.name (kind_of parameter.value_type) false) (kinds ++ kind_of parameter.value_type ∷ []) parameters
    (record {
      registers =
          length-append kinds (kind_of parameter.value_type ∷ []) ∙ ap (λ n. n + 1) is.registers
          ∙ sym (length-append named.registers (kind_of parameter.value_type ∷ []));
      blocks = is.blocks;
    })

begun_beside : (line : ℕ) (named : NamedBody) (kinds : List Kind) (labelled : Bool) → Argued named kinds →
    Beside (if labelled then named else bodies.with_block line named None) (none_built labelled (length kinds))
begun_beside line named kinds true is = record { registers = omega (arith, is.registers); blocks = omega (arith, is.blocks) }
begun_beside line named kinds false is = record { registers = omega (arith, is.registers); blocks = omega (arith, is.blocks) }

local_more : (registers blocks more : ℕ) (role : LocalRole) → blocks ≤ more → IsLocal registers blocks role → IsLocal registers more role
local_more registers blocks more (locals.Register number kind written) most is = is
local_more registers blocks more (locals.Block number) most is = omega (arith, is)
local_more registers blocks more locals.Void most is = tt

locals_more : (registers blocks more : ℕ) (roles : List LocalRole) → blocks ≤ more →
    AllByRecursion (IsLocal registers blocks) roles → AllByRecursion (IsLocal registers more) roles
locals_more registers blocks more [] most is = tt
locals_more registers blocks more (role ∷ roles) most (here, is) =
    (local_more registers blocks more role most here, locals_more registers blocks more roles most is)

abbrev LocalsStand : Type 0
LocalsStand = (names : ModuleNames) (item : Segment) → StandForLocals (bodies.names_of names item)

function_in_range : (stand : LocalsStand) (all functions : ℕ) (names : ModuleNames) (structs : Structs) (item : Segment) → 0 < functions →
    AllByRecursion (IsItem all functions) names.roles → IsInRange functions (function_of names structs item).function
function_in_range stand all functions names structs item some roles =
    let line = item.first.line in
    let body = body_of item in
    let none = bodies.no_names (result_kind (result_type_of item)) in
    let empty : Argued none [] = record { registers = refl; blocks = refl } in
    let arguments = bodies.with_parameters line none (parameters_of item) in
    let begun = bodies.with_first_block line arguments body in
    let start = begun_beside line arguments (kinds_of item) (bodies.begins_with_label body) (argued line none [] (parameters_of item) empty) in
    let named = bodies.names_of names item in
    let scope = scope_of names structs named in
    let built_none = none_built (bodies.begins_with_label body) (length (kinds_of item)) in
    let done = built scope (length (kinds_of item)) body in
    let room : Room = record { functions = functions; blocks = length (blocks_with done); registers = length named.registers } in
    let end : Beside named done = beside names scope begun built_none (statements_of body) start in
    let most : named.blocks ≤ length (blocks_with done) = omega (arith, end.blocks, length_with done.is_open done refl) in
    let stands : Stands room scope = record {
      globals = all;
      items = roles;
      locals = locals_more (length named.registers) named.blocks (length (blocks_with done)) named.names.roles most (stand names item).there;
      some_function = some;
      some_block = has_block done (ends_open scope (length (kinds_of item)) (statements_of body));
    } in
    let few : length (bodies.with_statements names begun (statements_of body)).registers ≤ room.registers = omega arith in
    let nothing : Fitting room built_none = record { blocks = All-nil (HasRoomFor room); insts = All-nil (Fits room) } in
    fitting_blocks room done.is_open done refl
    (fitting room names scope begun built_none (statements_of body) stands start few nothing)

-- ---- all functions

form_in_range : (stand : LocalsStand) (all count : ℕ) (form : ItemForm) (names : ModuleNames) (structs : Structs) (done : BuiltFunctions) (item : Segment) →
    0 < count → AllByRecursion (IsItem all count) names.roles → All (IsInRange count) done.functions →
    All (IsInRange count) (with_form form names structs done item).functions
form_in_range stand all count forms.Define names structs done item some roles are =
    All-push (IsInRange count) done.functions (function_of names structs item).function are
    (function_in_range stand all count names structs item some roles)
form_in_range stand all count forms.Struct names structs done item some roles are = are
form_in_range stand all count forms.Global names structs done item some roles are = are
form_in_range stand all count forms.Declare names structs done item some roles are = are

all_in_range : (stand : LocalsStand) (all count : ℕ) (names : ModuleNames) (structs : Structs) (done : BuiltFunctions) (items : List Segment) →
    0 < count → AllByRecursion (IsItem all count) names.roles → All (IsInRange count) done.functions →
    All (IsInRange count) (functions_from names structs done items).functions
all_in_range stand all count names structs done [] some roles are = are
all_in_range stand all count names structs done (item ∷ items) some roles are =
    all_in_range stand all count names structs (with_form (form_of item) names structs done item) items some roles
    (form_in_range stand all count (form_of item) names structs done item some roles are)

-- ---- the module

module_in_range : (fault : Option Fault) (main : Option ℕ) (parts : Parts) → or_no_main parts.first main ≡ fault →
    ((number : ℕ) → main ≡ Some number → All (IsInRange (length parts.functions.functions)) parts.functions.functions) →
    IfOk (module_by fault main parts) AreInRange
module_in_range (Some fault) main parts is are = tt
module_in_range None (Some number) parts is are = are number refl
module_in_range None None parts is are = absurd (lacks_main parts.first is)

pub accepted_in_range : ((all : List Segment) → StandForItems (items.names_of all)) → LocalsStand → (nodes : List Told) →
    IfOk (checked_module nodes) AreInRange
accepted_in_range stand locals nodes =
    let all = segments_of cuts.Items nodes in
    let parts = parts_of all in
    let named = items.names_of all in
    let count = length named.names.signatures in
    let same : length parts.functions.functions ≡ count = as_many parts.names (structs_of all) functions.none_built items.no_names all refl in
    module_in_range (or_no_main parts.first (main_of parts.names)) (main_of parts.names) parts refl (λ number is.
    let within = in_roles named.globals count number named.names.roles (position (bytes_eq (codes "main")) named.names.table) (stand all).there is in
    let some : 0 < count = omega (arith, within) in
    subst (λ n. All (IsInRange n) parts.functions.functions) (sym same) (all_in_range locals named.globals count parts.names (structs_of all) functions.none_built all some (stand all).there (All-nil (IsInRange count))))
