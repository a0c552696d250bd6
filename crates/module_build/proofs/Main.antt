-- The function `main` of an accepted module is one of its functions.
use Rattle.std.proofs.Common.{◌≡◌, ◌∙◌, ℕ, ◌+◌, ◌<◌, List, [], ◌∷◌, length, length-append, slice_get, Option, Some, None, option_and_then, position, bytes_eq, codes, IfOk, ap, refl, sym}
use Rattle.std.specs.List.{AllByRecursion}
use Rattle.std.proofs.lemmas.List.Elements.{All-from_recursion}
use Rattle.ir_read.specs.Node.{Told}
use Rattle.ir_items.specs.declared.item.ItemForm.{ItemForm}
use Rattle.ir_items.specs.declared.item.ItemForm.TheVariants as forms
use Rattle.ir_items.specs.declared.segment.Cut.TheVariants as cuts
use Rattle.ir_items.specs.Item.{form_of}
use Rattle.ir_items.specs.Segment.{Segment, segments_of}
use Rattle.machine_model.proofs.Places.{All-slice_get}
use Rattle.module_fault.specs.declared.fault.Fault.{Fault}
use Rattle.instruction_check.specs.declared.roles.GlobalRole.{GlobalRole}
use Rattle.instruction_check.specs.declared.roles.GlobalRole.TheVariants as globals
use Rattle.instruction_check.specs.declared.scope.ModuleNames.{ModuleNames}
use Rattle.struct_table.specs.StructTable.{Structs, structs_of}
use Rattle.module_check.specs.declared.item_names.NamedItems.{NamedItems}
use Rattle.module_check.specs.ItemNames as items
use Rattle.module_check.specs.MainFunction.{function_in, main_of}
use Rattle.module_check.specs.Names.{or_no_main}
use Rattle.module_check.specs.Signature.{signature_of}
use Rattle.module_check.specs.Within.{IsItem, StandForItems}
use Rattle.module_build.specs.declared.checked.Parts.{Parts}
use Rattle.module_build.specs.declared.functions.BuiltFunctions.{BuiltFunctions}
use Rattle.module_build.specs.Checked.{checked_module, module_by, parts_of}
use Rattle.module_build.specs.Function.{function_of}
use Rattle.module_build.specs.Functions.{functions_from, none_built, with_form}

-- ---- the number of `main`

in_role : (all functions number : ℕ) (roles : List GlobalRole) (place : ℕ) (role : Option GlobalRole) →
    AllByRecursion (IsItem all functions) roles → slice_get roles place ≡ role → function_in role ≡ Some number → number < functions
in_role all functions number roles place (Some (globals.Function found)) stand there is =
    let same : found ≡ number = cc in
    rw (← same) (All-slice_get (IsItem all functions) roles place (globals.Function found) (All-from_recursion (IsItem all functions) roles stand) there)
in_role all functions number roles place (Some (globals.Global found)) stand there is = cc
in_role all functions number roles place (Some (globals.Declared call)) stand there is = cc
in_role all functions number roles place None stand there is = cc

pub in_roles : (all functions number : ℕ) (roles : List GlobalRole) (place : Option ℕ) → AllByRecursion (IsItem all functions) roles →
    function_in (option_and_then (slice_get roles) place) ≡ Some number → number < functions
in_roles all functions number roles None stand is = cc
in_roles all functions number roles (Some place) stand is =
    in_role all functions number roles place (slice_get roles place) stand refl is

-- ---- each function has a signature, and each signature a function

as_many_with : (form : ItemForm) (names : ModuleNames) (structs : Structs) (done : BuiltFunctions) (named : NamedItems) (item : Segment) →
    length done.functions ≡ length named.names.signatures →
    length (with_form form names structs done item).functions ≡ length (items.with_form form named item).names.signatures
as_many_with forms.Define names structs done named item is =
    length-append done.functions ((function_of names structs item).function ∷ [])
    ∙ ap (λ n. n + 1) is
    ∙ sym (length-append named.names.signatures (signature_of item ∷ []))
as_many_with forms.Struct names structs done named item is = is
as_many_with forms.Global names structs done named item is = is
as_many_with forms.Declare names structs done named item is = is

pub as_many : (names : ModuleNames) (structs : Structs) (done : BuiltFunctions) (named : NamedItems) (all : List Segment) →
    length done.functions ≡ length named.names.signatures →
    length (functions_from names structs done all).functions ≡ length (items.names_from named all).names.signatures
as_many names structs done named [] is = is
as_many names structs done named (item ∷ all) is =
    as_many names structs (with_form (form_of item) names structs done item) (items.with_form (form_of item) named item) all
    (as_many_with (form_of item) names structs done named item is)

-- ---- the module

-- where no `main` is defined there is a fault
pub lacks_main : (first : Option Fault) → or_no_main first None ≡ None → ⊥
lacks_main (Some fault) is = cc
lacks_main None is = cc

there : (fault : Option Fault) (main : Option ℕ) (parts : Parts) →
    ((number : ℕ) → main ≡ Some number → number < length parts.functions.functions) →
    or_no_main parts.first main ≡ fault → IfOk (module_by fault main parts) (λ code. code.main < length code.functions)
there (Some fault) main parts within is = tt
there None (Some number) parts within is = within number refl
there None None parts within is = absurd (lacks_main parts.first is)

pub main_there : ((all : List Segment) → StandForItems (items.names_of all)) → (nodes : List Told) →
    IfOk (checked_module nodes) (λ code. code.main < length code.functions)
main_there stand nodes =
    let all = segments_of cuts.Items nodes in
    let parts = parts_of all in
    let named = items.names_of all in
    let same : length parts.functions.functions ≡ length named.names.signatures = as_many parts.names (structs_of all) none_built items.no_names all refl in
    there (or_no_main parts.first (main_of parts.names)) (main_of parts.names) parts
    (λ number is. rw same (in_roles named.globals (length named.names.signatures) number named.names.roles
    (position (bytes_eq (codes "main")) named.names.table) (stand all).there is))
    refl
