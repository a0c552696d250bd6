-- The lines of a module's instructions are theirs.
use Rattle.std.proofs.Common.{◌≡◌, ◌∙◌, ℕ, Bool, true, false, List, [], ◌∷◌, ◌++◌, length, Option, Some, None, IfOk, append_assoc, ap, refl, subst, sym, if◌then◌else◌}
use Rattle.std.specs.List.{AllZip, flat_map}
use Rattle.std.proofs.lemmas.Grind.{flat_map-append}
use Rattle.ir_read.specs.Node.{Told}
use Rattle.ir_items.specs.declared.item.ItemForm.{ItemForm}
use Rattle.ir_items.specs.declared.item.ItemForm.TheVariants as forms
use Rattle.ir_items.specs.declared.segment.Cut.TheVariants as cuts
use Rattle.ir_items.specs.Item.{body_of, form_of}
use Rattle.ir_items.specs.Segment.{Segment, segments_of}
use Rattle.ir_items.specs.Statement.{Statement, is_label, statements_of}
use Rattle.ir_types.specs.declared.instruction.Inst.{Inst}
use Rattle.ir_types.specs.declared.«module».Block.{Block}
use Rattle.ir_types.specs.declared.«module».Function.{Function}
use Rattle.instruction_check.specs.declared.scope.ModuleNames.{ModuleNames}
use Rattle.instruction_check.specs.Scope.{Scope}
use Rattle.module_check.specs.BodyNames.{first_is_label, names_of}
use Rattle.module_check.specs.ItemNames.{numbered}
use Rattle.module_check.specs.MainFunction.{main_of}
use Rattle.module_check.specs.Names.{or_no_main}
use Rattle.module_fault.specs.declared.fault.Fault.{Fault}
use Rattle.struct_table.specs.StructTable.{Structs, structs_of}
use Rattle.module_build.specs.declared.body.BuiltBody.{BuiltBody}
use Rattle.module_build.specs.declared.checked.Parts.{Parts}
use Rattle.module_build.specs.declared.functions.BuiltFunctions.{BuiltFunctions}
use Rattle.module_build.specs.Body.{block, blocks_with, built_from, none_built, with_statement}
use Rattle.module_build.specs.Checked.{checked_module, module_by, parts_of}
use Rattle.module_build.specs.Function.{function_of, kinds_of, scope_of}
use Rattle.module_build.specs.Functions.{functions_from, with_form}
use Rattle.module_build.specs.Functions as functions
use Rattle.module_build.specs.Instruction.{instruction}
use Rattle.module_build.specs.InLine.{IsInLine, LinesAreTheirs, blocks_of, insts_in, insts_of}
use Rattle.module_build.specs.Lines as lines

none_more : {X : Type 0} (xs : List X) → xs ++ [] ≡ xs
none_more [] = refl
none_more (x ∷ xs) = ap (λ rest. x ∷ rest) (none_more xs)

flat_push : {X Y : Type 0} (f : X → List Y) (xs : List X) (x : X) → flat_map f (xs ++ x ∷ []) ≡ flat_map f xs ++ f x
flat_push f [] x = none_more (f x)
flat_push f (first ∷ xs) x = ap (λ rest. f first ++ rest) (flat_push f xs x) ∙ sym (append_assoc (f first) (flat_map f xs) (f x))

zip_push : (xs : List ℕ) (ys : List Inst) (x : ℕ) (y : Inst) → AllZip IsInLine xs ys → IsInLine x y → AllZip IsInLine (xs ++ x ∷ []) (ys ++ y ∷ [])
zip_push [] [] x y all here = (here, tt)
zip_push [] (other ∷ ys) x y all here = absurd all
zip_push (one ∷ xs) [] x y all here = absurd all
zip_push (one ∷ xs) (other ∷ ys) x y (first, all) here = (first, zip_push xs ys x y all here)

insts_push : (functions : List Function) (function : Function) →
    insts_of (functions ++ function ∷ []) ≡ insts_of functions ++ insts_in function.blocks
insts_push functions function =
    ap insts_in (flat_push (λ (one : Function). one.blocks) functions function)
    ∙ flat_map-append (λ (block : Block). block.insts) (blocks_of functions) function.blocks

-- behind the instructions before the body, those of its blocks
abbrev so_far : List Inst → BuiltBody → List Inst
so_far before done = before ++ insts_in (blocks_with done)

record Along (before : List Inst) (done : BuiltBody) (found : List ℕ) : Type 0 where
  opens : done.is_open ≡ true
  theirs : AllZip IsInLine found (so_far before done)

along_more : (before : List Inst) (scope : Scope) (done : BuiltBody) (statement : Statement) (found : List ℕ) (label : Bool) → is_label statement ≡ label →
    Along before done found → Along before (with_statement scope done statement) (lines.with_statement found statement)
along_more before scope done statement found true begins is = rw begins (record {
  opens = refl;
  theirs =
      subst (λ insts. AllZip IsInLine found (before ++ insts))
      (sym (flat_push (λ (block : Block). block.insts) (blocks_with done) _ ∙ none_more (insts_in (blocks_with done)))) is.theirs;
})
along_more before scope done statement found false begins is =
    let one = instruction scope (numbered done.registers) statement in
    let blocks = insts_in done.blocks in
    let now : so_far before done ≡ before ++ (blocks ++ done.insts) =
    rw is.opens (ap (λ insts. before ++ insts) (flat_push (λ (block : Block). block.insts) done.blocks (block done.start done.insts))) in
    let more : AllZip IsInLine (found ++ statement.line ∷ []) ((before ++ (blocks ++ done.insts)) ++ one.value ∷ []) =
    zip_push found (before ++ (blocks ++ done.insts)) statement.line one.value
    (subst (λ insts. AllZip IsInLine found insts) now is.theirs)
    (record { scope = scope; to = numbered done.registers; statement = statement; in_line = refl; is = refl }) in
    rw begins (record {
      opens = is.opens;
      theirs = rw is.opens (subst (λ insts. AllZip IsInLine (found ++ statement.line ∷ []) insts) (moved before blocks done.insts (one.value ∷ []) ∙ sym (ap (λ insts. before ++ insts) (flat_push (λ (block : Block). block.insts) done.blocks (block done.start (done.insts ++ one.value ∷ []))))) more);
    })
  where
    moved : (a b c d : List Inst) → (a ++ (b ++ c)) ++ d ≡ a ++ (b ++ (c ++ d))
    moved a b c d = simp append_assoc

along : (before : List Inst) (scope : Scope) (done : BuiltBody) (statements : List Statement) (found : List ℕ) → Along before done found →
    Along before (built_from scope done statements) (lines.statements_from found statements)
along before scope done [] found is = is
along before scope done (statement ∷ statements) found is =
    along before scope (with_statement scope done statement) statements (lines.with_statement found statement)
    (along_more before scope done statement found (is_label statement) refl is)

body_along : (before : List Inst) (scope : Scope) (arguments : ℕ) (statements : List Statement) (found : List ℕ) → AllZip IsInLine found before →
    Along before (built_from scope (none_built (first_is_label statements) arguments) statements) (lines.statements_from found statements)
body_along before scope arguments [] found is =
    record { opens = refl; theirs = subst (λ insts. AllZip IsInLine found insts) (sym (none_more before)) is }
body_along before scope arguments (statement ∷ statements) found is =
    along before scope (with_statement scope (none_built (is_label statement) arguments) statement) statements (lines.with_statement found statement)
    (begun (is_label statement) refl)
  where
    same : AllZip IsInLine found (before ++ [])
    same = subst (λ insts. AllZip IsInLine found insts) (sym (none_more before)) is

    begun : (label : Bool) → is_label statement ≡ label →
        Along before (with_statement scope (none_built (is_label statement) arguments) statement) (lines.with_statement found statement)
    begun true begins = rw begins (record { opens = refl; theirs = same })
    begun false begins =
        subst (λ (labelled : Bool). Along before (with_statement scope (none_built labelled arguments) statement) (lines.with_statement found statement)) (sym begins)
        (along_more before scope (none_built false arguments) statement found false begins (record { opens = refl; theirs = same }))

form_along : (form : ItemForm) (names : ModuleNames) (structs : Structs) (done : BuiltFunctions) (item : Segment) (found : List ℕ) →
    AllZip IsInLine found (insts_of done.functions) →
    AllZip IsInLine (lines.with_form form found item) (insts_of (with_form form names structs done item).functions)
form_along forms.Define names structs done item found is =
    subst (λ insts. AllZip IsInLine (lines.statements_from found (statements_of (body_of item))) insts)
    (sym (insts_push done.functions (function_of names structs item).function))
    (body_along (insts_of done.functions) (scope_of names structs (names_of names item)) (length (kinds_of item)) (statements_of (body_of item)) found is).theirs
form_along forms.Struct names structs done item found is = is
form_along forms.Global names structs done item found is = is
form_along forms.Declare names structs done item found is = is

items_along : (names : ModuleNames) (structs : Structs) (done : BuiltFunctions) (items : List Segment) (found : List ℕ) →
    AllZip IsInLine found (insts_of done.functions) →
    AllZip IsInLine (lines.items_from found items) (insts_of (functions_from names structs done items).functions)
items_along names structs done [] found is = is
items_along names structs done (item ∷ items) found is =
    items_along names structs (with_form (form_of item) names structs done item) items (lines.with_form (form_of item) found item)
    (form_along (form_of item) names structs done item found is)

module_along : (fault : Option Fault) (main : Option ℕ) (parts : Parts) (items : List Segment) →
    AllZip IsInLine (lines.lines_of items) (insts_of parts.functions.functions) → IfOk (module_by fault main parts) (LinesAreTheirs items)
module_along (Some fault) main parts items is = tt
module_along None main parts items is = is

pub lines_theirs : (nodes : List Told) → IfOk (checked_module nodes) (LinesAreTheirs (segments_of cuts.Items nodes))
lines_theirs nodes =
    let items = segments_of cuts.Items nodes in
    let parts = parts_of items in
    module_along (or_no_main parts.first (main_of parts.names)) (main_of parts.names) parts items
    (items_along parts.names (structs_of items) functions.none_built items [] tt)
