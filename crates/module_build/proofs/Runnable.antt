-- The numbers of an accepted module's instructions.
use Rattle.std.proofs.Common.{◌≡◌, ℕ, ◌+◌, ◌-◌, ◌<◌, ◌≤◌, ◌^◌, Bool, true, false, List, [], ◌∷◌, length, length-append, drop, All, Option, Some, None, IfOk, ap, refl, subst, arith}
use Rattle.std.proofs.lemmas.List.{length-drop, length-take}
use Rattle.std.proofs.lemmas.List.Elements.{All-append, All-cons, All-nil}
use Rattle.ir_types.specs.declared.«module».Function.{Function}
use Rattle.ir_read.specs.Node.{Told}
use Rattle.ir_items.specs.declared.item.ItemForm.{ItemForm}
use Rattle.ir_items.specs.declared.item.ItemForm.TheVariants as forms
use Rattle.ir_items.specs.declared.segment.Cut.{Cut}
use Rattle.ir_items.specs.declared.segment.Cut.TheVariants as cuts
use Rattle.ir_items.specs.Item.{body_of, form_of, parameters_len, signature_of}
use Rattle.ir_items.specs.Laws.{nodes_of}
use Rattle.ir_items.specs.Segment.{Segment, segments_of}
use Rattle.ir_items.specs.Statement.{Statement, is_label, statements_in, statements_of}
use Rattle.machine_model.specs.Runnable.{HasSmallNumbers, IsRunnable}
use Rattle.module_fault.specs.declared.fault.Fault.{Fault}
use Rattle.instruction_check.specs.declared.scope.ModuleNames.{ModuleNames}
use Rattle.instruction_check.specs.Scope.{Scope}
use Rattle.struct_table.specs.StructTable.{Structs}
use Rattle.module_check.specs.BodyNames.{begins_with_label, names_of}
use Rattle.module_check.specs.ItemNames.{numbered}
use Rattle.module_check.specs.MainFunction.{main_of}
use Rattle.module_check.specs.Names.{or_no_main}
use Rattle.module_build.specs.declared.body.BuiltBody.{BuiltBody}
use Rattle.module_build.specs.declared.checked.Parts.{Parts}
use Rattle.module_build.specs.declared.functions.BuiltFunctions.{BuiltFunctions}
use Rattle.module_build.specs.Body.{block, blocks_with, built, built_from, none_built, with_statement}
use Rattle.module_build.specs.Checked.{checked_module, module_by, parts_of}
use Rattle.module_build.specs.Function.{function_of, kinds_of, scope_of}
use Rattle.module_build.specs.Functions.{functions_from, with_form}
use Rattle.module_build.specs.Instruction.{instruction}

-- the segments of a list are its nodes
abbrev pub AreWhole : Type 0
AreWhole = (cut : Cut) (nodes : List Told) → nodes_of (segments_of cut nodes) ≡ nodes

-- ---- how many statements there are

pub no_more : (segments : List Segment) → length segments ≤ length (nodes_of segments)
no_more [] = omega arith
no_more (segment ∷ segments) = omega (arith, no_more segments, length-append segment.rest (nodes_of segments))

as_many : (segments : List Segment) → length (statements_in segments) ≡ length segments
as_many [] = refl
as_many (segment ∷ segments) = omega (arith, as_many segments)

few_statements : (are : AreWhole) (body : List Told) → length (statements_of body) ≤ length body
few_statements are body =
    let segments = segments_of cuts.Statements body in
    let whole : length (nodes_of segments) ≡ length body = ap length (are cuts.Statements body) in
    omega (arith, as_many segments, no_more segments, whole)

-- ---- the blocks of a body

-- so many instructions at most
record IsSmall (n : ℕ) (done : BuiltBody) : Type 0 where
  small : All HasSmallNumbers done.blocks
  count : done.start + length done.insts ≤ n

small_blocks : (is_open : Bool) (n : ℕ) (done : BuiltBody) → n < 2 ^ 32 → IsSmall n done → done.is_open ≡ is_open →
    All HasSmallNumbers (blocks_with done)
small_blocks true n done few is opens =
    let one : HasSmallNumbers (block done.start done.insts) = omega (arith, is.count) in
    rw opens (All-append HasSmallNumbers done.blocks _ is.small (All-cons HasSmallNumbers (block done.start done.insts) [] one (All-nil HasSmallNumbers)))
small_blocks false n done few is opens = rw opens is.small

-- a statement adds an instruction at most
small_more : (n : ℕ) (scope : Scope) (done : BuiltBody) (statement : Statement) (label : Bool) → n < 2 ^ 32 →
    is_label statement ≡ label → IsSmall n done → IsSmall (n + 1) (with_statement scope done statement)
small_more n scope done statement true few begins is = rw begins (record {
  small = small_blocks done.is_open n done few is refl;
  count = omega (arith, is.count);
})
small_more n scope done statement false few begins is = rw begins (record {
  small = is.small;
  count = omega (arith, is.count, length-append done.insts ((instruction scope (numbered done.registers) statement).value ∷ []));
})

small_built : (n : ℕ) (scope : Scope) (done : BuiltBody) (statements : List Statement) → n + length statements < 2 ^ 32 →
    IsSmall n done → IsSmall (n + length statements) (built_from scope done statements)
small_built n scope done [] few is = subst (λ m. IsSmall m done) (omega arith) is
small_built n scope done (statement ∷ statements) few is =
    let fewer : n < 2 ^ 32 = omega arith in
    let left : n + 1 + length statements < 2 ^ 32 = omega arith in
    subst (λ m. IsSmall m (built_from scope (with_statement scope done statement) statements)) (omega arith)
    (small_built (n + 1) scope (with_statement scope done statement) statements left
    (small_more n scope done statement (is_label statement) fewer refl is))

small_body : (are : AreWhole) (scope : Scope) (arguments : ℕ) (body : List Told) → length body < 2 ^ 32 →
    All HasSmallNumbers (blocks_with (built scope arguments body))
small_body are scope arguments body short =
    let few : 0 + length (statements_of body) < 2 ^ 32 = omega (arith, few_statements are body) in
    let begun = none_built (begins_with_label body) arguments in
    let none : IsSmall 0 begun = record { small = All-nil HasSmallNumbers; count = omega arith } in
    let done = built scope arguments body in
    small_blocks done.is_open (0 + length (statements_of body)) done few (small_built 0 scope begun (statements_of body) few none) refl

-- ---- functions

abbrev HasSmallBlocks : Function → Type 0
HasSmallBlocks function = All HasSmallNumbers function.blocks

body_short : (item : Segment) → length (body_of item) ≤ length item.rest
body_short item =
    let whole = drop (parameters_len item + 2) (signature_of item) in
    omega (arith, length-take (length whole - 1) whole, length-drop (parameters_len item + 2) (signature_of item), length-drop 3 item.rest)

small_function : (are : AreWhole) (names : ModuleNames) (structs : Structs) (item : Segment) → length item.rest < 2 ^ 32 →
    HasSmallBlocks (function_of names structs item).function
small_function are names structs item short =
    let shorter : length (body_of item) < 2 ^ 32 = omega (arith, body_short item) in
    small_body are (scope_of names structs (names_of names item)) (length (kinds_of item)) (body_of item) shorter

small_form : (are : AreWhole) (form : ItemForm) (names : ModuleNames) (structs : Structs) (done : BuiltFunctions) (item : Segment) →
    length item.rest < 2 ^ 32 → All HasSmallBlocks done.functions → All HasSmallBlocks (with_form form names structs done item).functions
small_form are forms.Define names structs done item short is =
    All-append HasSmallBlocks done.functions _ is
    (All-cons HasSmallBlocks (function_of names structs item).function [] (small_function are names structs item short) (All-nil HasSmallBlocks))
small_form are forms.Struct names structs done item short is = is
small_form are forms.Global names structs done item short is = is
small_form are forms.Declare names structs done item short is = is

small_functions : (are : AreWhole) (names : ModuleNames) (structs : Structs) (done : BuiltFunctions) (items : List Segment) →
    length (nodes_of items) < 2 ^ 32 → All HasSmallBlocks done.functions →
    All HasSmallBlocks (functions_from names structs done items).functions
small_functions are names structs done [] short is = is
small_functions are names structs done (item ∷ items) short is =
    let here : length item.rest < 2 ^ 32 = omega (arith, length-append item.rest (nodes_of items)) in
    let left : length (nodes_of items) < 2 ^ 32 = omega (arith, length-append item.rest (nodes_of items)) in
    small_functions are names structs (with_form (form_of item) names structs done item) items left
    (small_form are (form_of item) names structs done item here is)

-- ---- the module

small_module : (fault : Option Fault) (main : Option ℕ) (parts : Parts) → All HasSmallBlocks parts.functions.functions →
    IfOk (module_by fault main parts) IsRunnable
small_module (Some fault) main parts is = tt
small_module None main parts is = is

pub accepted_runnable : (are : AreWhole) (nodes : List Told) → length nodes < 2 ^ 32 → IfOk (checked_module nodes) IsRunnable
accepted_runnable are nodes short =
    let items = segments_of cuts.Items nodes in
    let parts = parts_of items in
    let whole : length (nodes_of items) < 2 ^ 32 = rw (are cuts.Items nodes) short in
    small_module (or_no_main parts.first (main_of parts.names)) (main_of parts.names) parts
    (small_functions are parts.names _ _ items whole (All-nil HasSmallBlocks))
