-- Each name stands for something that is there.
use Rattle.std.proofs.Common.{◌≡◌, ◌∙◌, ℕ, ◌+◌, ◌-◌, ◌^◌, ◌≤◌, Bool, true, false, List, [], ◌∷◌, ◌++◌, length, length-append, Option, Some, None, is_some, position, bytes_eq, if◌then◌else◌, refl, sym, ap, arith}
use Rattle.std.specs.List.{AllByRecursion, list_any}
use Rattle.ir_types.specs.declared.word.Kind.{Kind}
use Rattle.ir_read.specs.Node.{Told}
use Rattle.ir_items.specs.declared.item.ItemForm.{ItemForm}
use Rattle.ir_items.specs.declared.item.ItemForm.TheVariants as forms
use Rattle.ir_items.specs.Item.{Parameter, body_of, form_of, parameters_of, result_type_of}
use Rattle.ir_items.specs.Segment.{Segment}
use Rattle.ir_items.specs.Statement.{Statement, is_label, statements_of}
use Rattle.ir_names.proofs.Tables.{position_any}
use Rattle.ir_names.specs.declared.local_name.LocalName.{LocalName}
use Rattle.ir_names.specs.LocalTable.{count_of, defined, given, has, is_below, name_given}
use Rattle.ir_names.specs.NameTable.{given as given_name}
use Rattle.instruction_check.specs.declared.roles.GlobalRole.{GlobalRole}
use Rattle.instruction_check.specs.declared.roles.GlobalRole.TheVariants as globals
use Rattle.instruction_check.specs.declared.roles.LocalRole.{LocalRole}
use Rattle.instruction_check.specs.declared.roles.LocalRole.TheVariants as locals
use Rattle.instruction_check.specs.declared.scope.ModuleNames.{ModuleNames}
use Rattle.instruction_check.specs.Literals.{kind_of}
use Rattle.instruction_check.specs.Results.{result_of}
use Rattle.module_check.specs.declared.body_names.NamedBody.{NamedBody}
use Rattle.module_check.specs.declared.item_names.NamedItems.{NamedItems}
use Rattle.module_check.specs.BodyNames as bodies
use Rattle.module_check.specs.ItemNames as items
use Rattle.module_check.specs.Signature.{result_kind, signature_of}
use Rattle.module_check.specs.Within.{IsItem, IsLocal, StandForItems, StandForLocals}

all_push : {X : Type 0} (P : X → Type 0) (xs : List X) (x : X) → AllByRecursion P xs → P x → AllByRecursion P (xs ++ x ∷ [])
all_push P [] x all here = (here, tt)
all_push P (first ∷ xs) x (at_first, all) here = (at_first, all_push P xs x all here)

one_more : {X : Type 0} (xs : List X) (x : X) → length (xs ++ x ∷ []) ≡ length xs + 1
one_more xs x = length-append xs (x ∷ [])

-- ---- items

record Items (all : ℕ) (functions : ℕ) (table : List (List ℕ)) (roles : List GlobalRole) : Type 0 where
  small : all ≤ 2 ^ 64 - 1
  each : length roles ≡ length table
  there : AllByRecursion (IsItem all functions) roles

item_more : (all functions more more_functions : ℕ) (role : GlobalRole) → all ≤ more → functions ≤ more_functions →
    IsItem all functions role → IsItem more more_functions role
item_more all functions more more_functions (globals.Global number) most most_functions is = omega (arith, most, is)
item_more all functions more more_functions (globals.Function number) most most_functions is = omega (arith, most_functions, is)
item_more all functions more more_functions (globals.Declared call) most most_functions is = tt

items_more : (all functions more more_functions : ℕ) (roles : List GlobalRole) → all ≤ more → functions ≤ more_functions →
    AllByRecursion (IsItem all functions) roles → AllByRecursion (IsItem more more_functions) roles
items_more all functions more more_functions [] most most_functions is = tt
items_more all functions more more_functions (role ∷ roles) most most_functions (here, is) =
    (item_more all functions more more_functions role most most_functions here, items_more all functions more more_functions roles most most_functions is)

each_role : (table : List (List ℕ)) (roles : List GlobalRole) (name : List ℕ) (place : Option ℕ) (role : GlobalRole) →
    is_some place ≡ list_any (bytes_eq name) table → length roles ≡ length table →
    length (items.roles_with roles place role) ≡ length (given_name table name)
each_role table roles name None role is each =
    one_more roles role ∙ ap (λ n. n + 1) each ∙ sym (one_more table name)
    ∙ ap (λ there. length (if there then table else table ++ name ∷ [])) is
each_role table roles name (Some place) role is each =
    each ∙ ap (λ there. length (if there then table else table ++ name ∷ [])) is

each_there : (all functions : ℕ) (roles : List GlobalRole) (place : Option ℕ) (role : GlobalRole) →
    AllByRecursion (IsItem all functions) roles → IsItem all functions role →
    AllByRecursion (IsItem all functions) (items.roles_with roles place role)
each_there all functions roles None role there here = all_push (IsItem all functions) roles role there here
each_there all functions roles (Some place) role there here = there

-- a name more, which stands for this among so many
name_more : (all functions more more_functions : ℕ) (table : List (List ℕ)) (roles : List GlobalRole) (name : List ℕ) (role : GlobalRole) →
    Items all functions table roles → more ≤ 2 ^ 64 - 1 → all ≤ more → functions ≤ more_functions → IsItem more more_functions role →
    Items more more_functions (given_name table name) (items.roles_with roles (position (bytes_eq name) table) role)
name_more all functions more more_functions table roles name role so_far small most most_functions here = record {
  small = small;
  each = each_role table roles name (position (bytes_eq name) table) role (position_any (bytes_eq name) table) so_far.each;
  there =
      each_there more more_functions roles (position (bytes_eq name) table) role
      (items_more all functions more more_functions roles most most_functions so_far.there) here;
}

abbrev AreItems : NamedItems → Type 0
AreItems named = Items named.globals (length named.names.signatures) named.names.table named.names.roles

form_keeps : (form : ItemForm) (done : NamedItems) (item : Segment) → AreItems done → AreItems (items.with_form form done item)
form_keeps forms.Struct done item so_far = so_far
form_keeps forms.Global done item so_far =
    let small = so_far.small in
    name_more done.globals (length done.names.signatures) (items.counted done.globals) (length done.names.signatures)
    done.names.table done.names.roles (items.text_of item) (globals.Global (items.numbered done.globals))
    so_far (omega arith) (omega (arith, small)) (omega arith) (omega (arith, small))
form_keeps forms.Declare done item so_far =
    name_more done.globals (length done.names.signatures) done.globals (length done.names.signatures)
    done.names.table done.names.roles (items.text_of item) _ so_far so_far.small (omega arith) (omega arith) tt
form_keeps forms.Define done item so_far =
    let functions = length done.names.signatures in
    let more : length (done.names.signatures ++ signature_of item ∷ []) ≡ functions + 1 = one_more done.names.signatures (signature_of item) in
    rw more (name_more done.globals functions done.globals (functions + 1)
    done.names.table done.names.roles (items.text_of item) (globals.Function (items.numbered functions))
    so_far so_far.small (omega arith) (omega arith) (omega arith))

items_keep : (done : NamedItems) (all : List Segment) → AreItems done → AreItems (items.names_from done all)
items_keep done [] so_far = so_far
items_keep done (item ∷ all) so_far = items_keep (items.with_item done item) all (form_keeps (form_of item) done item so_far)

pub items_stand : (all : List Segment) → StandForItems (items.names_of all)
items_stand all =
    let are : AreItems (items.names_of all) = items_keep items.no_names all (record { small = omega arith; each = refl; there = tt }) in
    record { each = are.each; there = are.there }

-- ---- bodies

record Locals (registers : ℕ) (blocks : ℕ) (table : List LocalName) (roles : List LocalRole) : Type 0 where
  small : blocks ≤ 2 ^ 64 - 1
  each : length roles ≡ length table
  there : AllByRecursion (IsLocal registers blocks) roles

local_more : (registers blocks more_registers more : ℕ) (role : LocalRole) → registers ≤ more_registers → blocks ≤ more →
    IsLocal registers blocks role → IsLocal more_registers more role
local_more registers blocks more_registers more (locals.Register number kind written) most_registers most is = omega (arith, most_registers, is)
local_more registers blocks more_registers more (locals.Block number) most_registers most is = omega (arith, most, is)
local_more registers blocks more_registers more locals.Void most_registers most is = tt

locals_more : (registers blocks more_registers more : ℕ) (roles : List LocalRole) → registers ≤ more_registers → blocks ≤ more →
    AllByRecursion (IsLocal registers blocks) roles → AllByRecursion (IsLocal more_registers more) roles
locals_more registers blocks more_registers more [] most_registers most is = tt
locals_more registers blocks more_registers more (role ∷ roles) most_registers most (here, is) =
    (local_more registers blocks more_registers more role most_registers most here, locals_more registers blocks more_registers more roles most_registers most is)

with_local : (registers blocks : ℕ) (table : List LocalName) (roles : List LocalRole) (name : LocalName) (role : LocalRole) (there below : Bool) →
    has table name ≡ there → is_below name (count_of table) ≡ below → Locals registers blocks table roles → IsLocal registers blocks role →
    Locals registers blocks (defined table name) (bodies.roles_with roles (given table name) role)
with_local registers blocks table roles name role true below is is_below so_far here = rw is so_far
with_local registers blocks table roles name role false true is is_below so_far here = rw (is, is_below) (record {
  small = so_far.small;
  each = one_more roles role ∙ ap (λ n. n + 1) so_far.each ∙ sym (one_more table name);
  there = all_push (IsLocal registers blocks) roles role so_far.there here;
})
with_local registers blocks table roles name role false false is is_below so_far here = rw (is, is_below) (record {
  small = so_far.small;
  each = one_more roles role ∙ ap (λ n. n + 1) so_far.each ∙ sym (one_more table name);
  there = all_push (IsLocal registers blocks) roles role so_far.there here;
})

-- a name more, which stands for this among so many
local_name_more : (registers blocks more_registers more : ℕ) (table : List LocalName) (roles : List LocalRole) (name : LocalName) (role : LocalRole) →
    Locals registers blocks table roles → more ≤ 2 ^ 64 - 1 → registers ≤ more_registers → blocks ≤ more → IsLocal more_registers more role →
    Locals more_registers more (defined table name) (bodies.roles_with roles (given table name) role)
local_name_more registers blocks more_registers more table roles name role so_far small most_registers most here =
    with_local more_registers more table roles name role (has table name) (is_below name (count_of table)) refl refl
    (record { small = small; each = so_far.each; there = locals_more registers blocks more_registers more roles most_registers most so_far.there }) here

abbrev AreLocals : NamedBody → Type 0
AreLocals named = Locals (length named.registers) named.blocks named.names.table named.names.roles

register_keeps : (line : ℕ) (done : NamedBody) (name : Option Told) (kind : Kind) (written : Bool) → AreLocals done →
    AreLocals (bodies.with_register line done name kind written)
register_keeps line done name kind written so_far =
    let registers = length done.registers in
    let more : length (done.registers ++ kind ∷ []) ≡ registers + 1 = one_more done.registers kind in
    rw more (local_name_more registers done.blocks (registers + 1) done.blocks done.names.table done.names.roles
    (name_given done.names.table (bodies.local_name name)) (locals.Register (items.numbered registers) kind written)
    so_far so_far.small (omega arith) (omega arith) (omega arith))

block_keeps : (line : ℕ) (done : NamedBody) (name : Option Told) → AreLocals done → AreLocals (bodies.with_block line done name)
block_keeps line done name so_far =
    let small = so_far.small in
    let registers = length done.registers in
    local_name_more registers done.blocks registers (items.counted done.blocks) done.names.table done.names.roles
    (name_given done.names.table (bodies.local_name name)) (locals.Block (items.numbered done.blocks))
    so_far (omega arith) (omega arith) (omega (arith, small)) (omega (arith, small))

void_keeps : (line : ℕ) (done : NamedBody) (name : Option Told) → AreLocals done → AreLocals (bodies.with_void line done name)
void_keeps line done None so_far = so_far
void_keeps line done (Some node) so_far =
    local_name_more (length done.registers) done.blocks (length done.registers) done.blocks done.names.table done.names.roles
    (name_given done.names.table (bodies.local_name (Some node))) locals.Void
    so_far so_far.small (omega arith) (omega arith) tt

parameters_keep : (line : ℕ) (done : NamedBody) (parameters : List Parameter) → AreLocals done → AreLocals (bodies.with_parameters line done parameters)
parameters_keep line done [] so_far = so_far
parameters_keep line done (parameter ∷ parameters) so_far =
    parameters_keep line (bodies.with_register line done parameter.name (kind_of parameter.value_type) false) parameters
    (register_keeps line done parameter.name (kind_of parameter.value_type) false so_far)

first_block_keeps : (line : ℕ) (done : NamedBody) (labelled : Bool) → AreLocals done →
    AreLocals (if labelled then done else bodies.with_block line done None)
first_block_keeps line done true so_far = so_far
first_block_keeps line done false so_far = block_keeps line done None so_far

result_keeps : (names : ModuleNames) (done : NamedBody) (statement : Statement) (given : Option Kind) → AreLocals done →
    AreLocals (bodies.with_result names done statement given)
result_keeps names done statement (Some kind) so_far = register_keeps statement.line done statement.result kind _ so_far
result_keeps names done statement None so_far = void_keeps statement.line done statement.result so_far

statement_keeps : (names : ModuleNames) (done : NamedBody) (statement : Statement) (label : Bool) → AreLocals done →
    AreLocals (if label then bodies.with_block statement.line done (Some statement.operation) else bodies.with_instruction names done statement)
statement_keeps names done statement true so_far = block_keeps statement.line done (Some statement.operation) so_far
statement_keeps names done statement false so_far = result_keeps names done statement (result_of statement) so_far

statements_keep : (names : ModuleNames) (done : NamedBody) (statements : List Statement) → AreLocals done →
    AreLocals (bodies.with_statements names done statements)
statements_keep names done [] so_far = so_far
statements_keep names done (statement ∷ statements) so_far =
    statements_keep names (bodies.with_statement names done statement) statements
    (statement_keeps names done statement (is_label statement) so_far)

pub locals_stand : (names : ModuleNames) (item : Segment) → StandForLocals (bodies.names_of names item)
locals_stand names item =
    let line = item.first.line in
    let none = bodies.no_names (result_kind (result_type_of item)) in
    let arguments = bodies.with_parameters line none (parameters_of item) in
    let empty : AreLocals none = record { small = omega arith; each = refl; there = tt } in
    let taken : AreLocals arguments = parameters_keep line none (parameters_of item) empty in
    let begun = first_block_keeps line arguments (bodies.begins_with_label (body_of item)) taken in
    let are : AreLocals (bodies.names_of names item) = statements_keep names (bodies.with_first_block line arguments (body_of item)) (statements_of (body_of item)) begun in
    record { each = are.each; there = are.there }
