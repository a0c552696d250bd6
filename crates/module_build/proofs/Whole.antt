-- The blocks of an accepted module are whole.
use Rattle.std.proofs.Common.{◌≡◌, ◌∙◌, ℕ, ◌+◌, ◌<◌, Bool, true, false, not, List, [], ◌∷◌, ◌++◌, length, length-append, All, Option, Some, None, IfOk, ap, refl, sym, subst, arith, if◌then◌else◌}
use Rattle.std.specs.Prelude.{IsTrue}
use Rattle.std.proofs.lemmas.List.Elements.{All-append, All-cons, All-nil}
use Rattle.ir_types.specs.declared.instruction.Inst.{Inst}
use Rattle.ir_types.specs.declared.«module».Function.{Function}
use Rattle.ir_read.specs.Node.{Told}
use Rattle.ir_items.specs.declared.item.ItemForm.{ItemForm}
use Rattle.ir_items.specs.declared.item.ItemForm.TheVariants as forms
use Rattle.ir_items.specs.declared.segment.Cut.TheVariants as cuts
use Rattle.ir_items.specs.Item.{body_of, form_of}
use Rattle.ir_items.specs.Segment.{Segment, segments_of}
use Rattle.ir_items.specs.Statement.{Statement, is_label, statements_of}
use Rattle.machine_model.specs.Rows.{ends_block, is_empty}
use Rattle.module_fault.specs.declared.fault.Fault.{Fault}
use Rattle.module_fault.specs.Cause.{lesser}
use Rattle.instruction_check.specs.declared.scope.ModuleNames.{ModuleNames}
use Rattle.instruction_check.specs.Scope.{Scope}
use Rattle.struct_table.specs.StructTable.{Structs, structs_of, unknown_in}
use Rattle.module_check.specs.declared.shape.Phase.{Phase}
use Rattle.module_check.specs.declared.shape.Phase.TheVariants as phases
use Rattle.module_check.specs.declared.shape.Shape.{Shape}
use Rattle.module_check.specs.BodyNames.{begins_with_label, first_is_label, names_of}
use Rattle.module_check.specs.ItemNames.{numbered}
use Rattle.module_check.specs.MainFunction.{main_of}
use Rattle.module_check.specs.Names.{or_no_main}
use Rattle.module_check.specs.Phis.{phi_fault}
use Rattle.module_check.specs.Shape as shapes
use Rattle.module_build.specs.declared.body.BuiltBody.{BuiltBody}
use Rattle.module_build.specs.declared.checked.Parts.{Parts}
use Rattle.module_build.specs.declared.functions.BuiltFunctions.{BuiltFunctions}
use Rattle.module_build.specs.Body.{block, blocks_with, built, built_from, none_built, with_statement}
use Rattle.module_build.specs.Checked.{checked_module, module_by, parts_of}
use Rattle.module_build.specs.Function.{function_of, kinds_of, scope_of, shape_of}
use Rattle.module_build.specs.Functions.{functions_from, with_form}
use Rattle.module_build.specs.Functions as functions
use Rattle.module_build.specs.Instruction.{instruction}
use Rattle.module_build.specs.Whole.{BlocksAreWhole, HasEndedBlocks, IsEnded, is_ended}
use Rattle.module_build.proofs.Ends.{ends_alike}
use Rattle.module_build.proofs.Faults.{no_earlier, no_fault_but_main, no_lesser, no_note}

-- ---- the phase of a block's instructions

abbrev phase_in : Phase → List Inst → Phase
phase_in phase [] = phase
phase_in phase (inst ∷ insts) = phase_in (shapes.phase_behind phase (ends_block inst)) insts

phase_more : (phase : Phase) (insts : List Inst) (inst : Inst) →
    phase_in phase (insts ++ inst ∷ []) ≡ shapes.phase_behind (phase_in phase insts) (ends_block inst)
phase_more phase [] inst = refl
phase_more phase (first ∷ insts) inst = phase_more (shapes.phase_behind phase (ends_block first)) insts inst

broken : (insts : List Inst) → phase_in phases.Broken insts ≡ phases.Ended → ⊥
broken [] is = cc
broken (inst ∷ insts) is = broken insts is

no_more : (insts : List Inst) → phase_in phases.Ended insts ≡ phases.Ended → is_empty insts ≡ true
no_more [] is = refl
no_more (inst ∷ insts) is = absurd (broken insts is)

ended_by : (ends : Bool) (insts : List Inst) → (phase_in phases.Open insts ≡ phases.Ended → is_ended insts ≡ true) →
    phase_in (shapes.phase_behind phases.Open ends) insts ≡ phases.Ended → (if ends then is_empty insts else is_ended insts) ≡ true
ended_by true insts behind is = no_more insts is
ended_by false insts behind is = behind is

ended : (insts : List Inst) → phase_in phases.Open insts ≡ phases.Ended → is_ended insts ≡ true
ended [] is = cc
ended (inst ∷ insts) is = ended_by (ends_block inst) insts (ended insts) is

no_cause : (phase : Phase) → shapes.phase_cause phase ≡ None → phase ≡ phases.Ended
no_cause phases.Ended is = refl
no_cause phases.Open is = cc
no_cause phases.Broken is = cc

-- ---- the blocks of a body

record Whole (shape : Shape) (done : BuiltBody) : Type 0 where
  blocks : All IsEnded done.blocks
  phase : done.is_open ≡ true → shape.phase ≡ phase_in phases.Open done.insts

-- unless something is wrong
abbrev IsGood : Shape → BuiltBody → Type 0
IsGood shape done = shape.first ≡ None → done.first ≡ None → Whole shape done

closed_blocks : (is_open : Bool) (shape : Shape) (done : BuiltBody) → done.is_open ≡ is_open → IsGood shape done →
    (shapes.closed shape).first ≡ None → done.first ≡ None → All IsEnded (blocks_with done)
closed_blocks true shape done opens good none right =
    let before = no_note shape.first shape.line (shapes.phase_cause shape.phase) none in
    let so_far = good before.0 right in
    let one : IsEnded (block done.start done.insts) = ended done.insts (sym (so_far.phase opens) ∙ no_cause shape.phase before.1) in
    rw opens (All-append IsEnded done.blocks _ so_far.blocks (All-cons IsEnded (block done.start done.insts) [] one (All-nil IsEnded)))
closed_blocks false shape done opens good none right =
    let before = no_note shape.first shape.line (shapes.phase_cause shape.phase) none in
    rw opens (good before.0 right).blocks

good_more : (scope : Scope) (shape : Shape) (done : BuiltBody) (statement : Statement) (label : Bool) → is_label statement ≡ label →
    IsGood shape done → IsGood (shapes.with_statement shape statement) (with_statement scope done statement)
good_more scope shape done statement true begins good = rw begins (λ none right. record {
  blocks = closed_blocks done.is_open shape done refl good none right;
  phase = λ opens. refl;
})
good_more scope shape done statement false begins good = rw begins (λ none right.
    let before = no_note shape.first statement.line _ none in
    let found = instruction scope (numbered done.registers) statement in
    let fine = no_note done.first statement.line (lesser (unknown_in scope.structs statement.operands) found.cause) right in
    let so_far = good before.0 fine.0 in
    let same = ends_alike scope (numbered done.registers) statement (no_lesser _ _ fine.1).1 in
    record {
      blocks = so_far.blocks;
      phase = λ opens.
          ap (λ phase. shapes.phase_behind phase (shapes.ends_block statement)) (so_far.phase opens)
          ∙ ap (shapes.phase_behind (phase_in phases.Open done.insts)) (sym same)
          ∙ sym (phase_more phases.Open done.insts found.value);
    })

good_built : (scope : Scope) (shape : Shape) (done : BuiltBody) (statements : List Statement) →
    IsGood shape done → IsGood (shapes.shape_from shape statements) (built_from scope done statements)
good_built scope shape done [] good = good
good_built scope shape done (statement ∷ statements) good =
    good_built scope (shapes.with_statement shape statement) (with_statement scope done statement) statements
    (good_more scope shape done statement (is_label statement) refl good)

-- ---- a body has a block

opened : (scope : Scope) (done : BuiltBody) (statement : Statement) (label : Bool) → is_label statement ≡ label →
    done.is_open ≡ true → (with_statement scope done statement).is_open ≡ true
opened scope done statement true begins is = rw begins refl
opened scope done statement false begins is = rw begins is

stays_open : (scope : Scope) (done : BuiltBody) (statements : List Statement) → done.is_open ≡ true →
    (built_from scope done statements).is_open ≡ true
stays_open scope done [] is = is
stays_open scope done (statement ∷ statements) is =
    stays_open scope (with_statement scope done statement) statements (opened scope done statement (is_label statement) refl is)

pub ends_open : (scope : Scope) (arguments : ℕ) (statements : List Statement) →
    (built_from scope (none_built (first_is_label statements) arguments) statements).is_open ≡ true
ends_open scope arguments [] = refl
ends_open scope arguments (statement ∷ statements) =
    stays_open scope _ statements (by_first (is_label statement) refl)
  where
    by_first : (label : Bool) → is_label statement ≡ label → (with_statement scope (none_built (is_label statement) arguments) statement).is_open ≡ true
    by_first true begins = rw begins refl
    by_first false begins = rw begins refl

pub has_block : (done : BuiltBody) → done.is_open ≡ true → 0 < length (blocks_with done)
has_block done opens = rw opens (omega (arith, length-append done.blocks (block done.start done.insts ∷ [])))

-- ---- functions

whole_function : (names : ModuleNames) (structs : Structs) (item : Segment) → (function_of names structs item).first ≡ None →
    HasEndedBlocks (function_of names structs item).function
whole_function names structs item right =
    let named = names_of names item in
    let scope = scope_of names structs named in
    let body = body_of item in
    let arguments = length (kinds_of item) in
    let done = built scope arguments body in
    let parts = no_earlier (shape_of named item) done.first right in
    let shape = no_earlier _ (phi_fault named.names named.blocks item) parts.0 in
    let none = no_earlier named.first (shapes.shape_fault item) shape.0 in
    let begun = shapes.no_statements item.first.line (begins_with_label body) in (
      has_block done (ends_open scope arguments (statements_of body)),
      closed_blocks done.is_open (shapes.shape_from begun (statements_of body)) done refl
          (good_built scope begun (none_built (begins_with_label body) arguments) (statements_of body) (begins (begins_with_label body)))
          none.1 parts.1,
    )
  where
    begins : (labelled : Bool) → IsGood (shapes.no_statements item.first.line labelled) (none_built labelled (length (kinds_of item)))
    begins true none right = record { blocks = All-nil IsEnded; phase = λ opens. cc }
    begins false none right = record { blocks = All-nil IsEnded; phase = λ opens. refl }

abbrev AreGood : BuiltFunctions → Type 0
AreGood done = done.first ≡ None → All HasEndedBlocks done.functions

good_form : (form : ItemForm) (names : ModuleNames) (structs : Structs) (done : BuiltFunctions) (item : Segment) →
    AreGood done → AreGood (with_form form names structs done item)
good_form forms.Define names structs done item good = λ right.
    let parts = no_earlier done.first (function_of names structs item).first right in
    All-append HasEndedBlocks done.functions _ (good parts.0)
    (All-cons HasEndedBlocks (function_of names structs item).function [] (whole_function names structs item parts.1) (All-nil HasEndedBlocks))
good_form forms.Struct names structs done item good = good
good_form forms.Global names structs done item good = good
good_form forms.Declare names structs done item good = good

good_functions : (names : ModuleNames) (structs : Structs) (done : BuiltFunctions) (items : List Segment) →
    AreGood done → AreGood (functions_from names structs done items)
good_functions names structs done [] good = good
good_functions names structs done (item ∷ items) good =
    good_functions names structs (with_form (form_of item) names structs done item) items (good_form (form_of item) names structs done item good)

-- ---- the module

whole_module : (fault : Option Fault) (main : Option ℕ) (parts : Parts) → or_no_main parts.first main ≡ fault →
    (parts.first ≡ None → All HasEndedBlocks parts.functions.functions) → IfOk (module_by fault main parts) BlocksAreWhole
whole_module (Some fault) main parts is good = tt
whole_module None main parts is good = good (no_fault_but_main parts.first main is)

pub accepted_whole : (nodes : List Told) → IfOk (checked_module nodes) BlocksAreWhole
accepted_whole nodes =
    let items = segments_of cuts.Items nodes in
    let parts = parts_of items in
    whole_module (or_no_main parts.first (main_of parts.names)) (main_of parts.names) parts refl
    (λ right. good_functions parts.names (structs_of items) functions.none_built items (λ none. All-nil HasEndedBlocks) (no_earlier _ parts.functions.first right).1)
