-- A module in which no instruction is beyond has all of its rows.
use Rattle.std.proofs.Common.{◌≡◌, ℕ, ◌<◌, Bool, true, false, cond, not, List, [], ◌∷◌, ◌++◌, length, Option, Some, None, option_map, IfOk, Result, Ok, Err, refl, if◌then◌else◌}
use Rattle.std.specs.Prelude.{IsTrue}
use Rattle.std.specs.List.{AllByRecursion, AllZip, find, flat_map, zip}
use Rattle.std.proofs.lemmas.List.Elements.{All-from_recursion, recursion_from_All}
use Rattle.ir_read.specs.declared.error.ModuleError.{ModuleError}
use Rattle.ir_read.specs.Node.{Told}
use Rattle.ir_types.specs.declared.instruction.Inst.{Inst}
use Rattle.ir_types.specs.declared.«module».Block.{Block}
use Rattle.ir_types.specs.declared.«module».Function.{Function}
use Rattle.ir_types.specs.declared.«module».Module.{Module}
use Rattle.ir_items.specs.declared.segment.Cut.TheVariants as cuts
use Rattle.ir_items.specs.Segment.{Segment, segments_of}
use Rattle.machine_model.specs.Rows.{HasRows, HasWholeBlocks, ends_block, has_row, is_empty, is_whole}
use Rattle.module_build.specs.Checked.{checked_module}
use Rattle.module_build.specs.InLine.{IsInLine, LinesAreTheirs, blocks_of, insts_of}
use Rattle.module_build.specs.Lines.{lines_of}
use Rattle.module_build.specs.Whole.{BlocksAreWhole, HasEndedBlocks, IsEnded, is_ended}
use Rattle.module_text.specs.Beyond.{first_beyond, is_beyond}

-- ---- each instruction has its row

abbrev HasRow : Module → Inst → Type 0
HasRow code inst = has_row code inst ≡ true

abbrev HasRowsIn : Module → Block → Type 0
HasRowsIn code block = AllByRecursion (HasRow code) block.insts

none_beyond : (code : Module) (insts : List Inst) (lines : List ℕ) → AllZip IsInLine lines insts →
    option_map (λ one. one.1) (find (is_beyond code) (zip insts lines)) ≡ None → AllByRecursion (HasRow code) insts
none_beyond code [] lines theirs is = tt
none_beyond code (inst ∷ insts) [] theirs is = absurd theirs
none_beyond code (inst ∷ insts) (line ∷ lines) (here, theirs) is =
    by_row (has_row code inst) refl (λ none. none_beyond code insts lines theirs none) is
  where
    by_row : (row : Bool) → has_row code inst ≡ row → (option_map (λ one. one.1) (find (is_beyond code) (zip insts lines)) ≡ None → AllByRecursion (HasRow code) insts) →
        option_map (λ one. one.1) (cond (not row) (Some (inst, line)) (find (is_beyond code) (zip insts lines))) ≡ None →
        AllByRecursion (HasRow code) (inst ∷ insts)
    by_row true row behind none = (row, behind none)
    by_row false row behind none = cc

two_parts : {X : Type 0} (P : X → Type 0) (xs ys : List X) → AllByRecursion P (xs ++ ys) → AllByRecursion P xs × AllByRecursion P ys
two_parts P [] ys all = (tt, all)
two_parts P (x ∷ xs) ys (here, all) = let two = two_parts P xs ys all in ((here, two.0), two.1)

each_part : {X Y : Type 0} (P : Y → Type 0) (f : X → List Y) (xs : List X) → AllByRecursion P (flat_map f xs) →
    AllByRecursion (λ x. AllByRecursion P (f x)) xs
each_part P f [] all = tt
each_part P f (x ∷ xs) all =
    let two = two_parts P (f x) (flat_map f xs) all in
    (two.0, each_part P f xs two.1)

-- ---- blocks that are ended, and whose instructions have rows, are whole

whole_by : (ends : Bool) (code : Module) (insts : List Inst) → (is_ended insts ≡ true → is_whole code insts ≡ true) →
    (if ends then is_empty insts else is_ended insts) ≡ true → (if ends then is_empty insts else is_whole code insts) ≡ true
whole_by true code insts behind is = is
whole_by false code insts behind is = behind is

whole : (code : Module) (insts : List Inst) → AllByRecursion (HasRow code) insts → is_ended insts ≡ true → is_whole code insts ≡ true
unfolding is_whole
whole code [] rows is = is
whole code (inst ∷ insts) (here, rows) is =
    rw here (whole_by (ends_block inst) code insts (whole code insts rows) is)

whole_blocks : (code : Module) (blocks : List Block) → AllByRecursion (HasRowsIn code) blocks →
    AllByRecursion IsEnded blocks → AllByRecursion (λ (block : Block). IsTrue (is_whole code block.insts)) blocks
whole_blocks code [] rows ended = tt
whole_blocks code (block ∷ blocks) (here, rows) (is, ended) = (whole code block.insts here is, whole_blocks code blocks rows ended)

whole_functions : (code : Module) (functions : List Function) →
    AllByRecursion (λ (function : Function). AllByRecursion (HasRowsIn code) function.blocks) functions →
    AllByRecursion HasEndedBlocks functions → AllByRecursion (HasWholeBlocks code) functions
whole_functions code [] rows ended = tt
whole_functions code (function ∷ functions) (here, rows) (are, ended) = (
  (
    are.0,
    All-from_recursion (λ (block : Block). IsTrue (is_whole code block.insts)) function.blocks
        (whole_blocks code function.blocks here (recursion_from_All IsEnded function.blocks are.1)),
  ),
  whole_functions code functions rows ended,
)

-- ---- the module

have_rows : (items : List Segment) (code : Module) → LinesAreTheirs items code → BlocksAreWhole code → code.main < length code.functions →
    first_beyond items code ≡ None → HasRows code
have_rows items code theirs ended main none =
    let rows = none_beyond code (insts_of code.functions) (lines_of items) theirs none in
    let in_blocks = each_part (HasRow code) (λ (block : Block). block.insts) (blocks_of code.functions) rows in
    let in_functions = each_part (HasRowsIn code) (λ (function : Function). function.blocks) code.functions in_blocks in
    record {
      main = main;
      whole =
          All-from_recursion (HasWholeBlocks code) code.functions
          (whole_functions code code.functions in_functions (recursion_from_All HasEndedBlocks code.functions ended));
    }

with_rows : (items : List Segment) (found : Result Module ModuleError) → IfOk found (LinesAreTheirs items) → IfOk found BlocksAreWhole →
    IfOk found (λ (code : Module). code.main < length code.functions) → IfOk found (λ code. first_beyond items code ≡ None → HasRows code)
with_rows items (Ok code) theirs ended main = have_rows items code theirs ended main
with_rows items (Err error) theirs ended main = tt

pub within_have_rows : ((nodes : List Told) → IfOk (checked_module nodes) (LinesAreTheirs (segments_of cuts.Items nodes))) →
    ((nodes : List Told) → IfOk (checked_module nodes) BlocksAreWhole) →
    ((nodes : List Told) → IfOk (checked_module nodes) (λ code. code.main < length code.functions)) → (nodes : List Told) →
    IfOk (checked_module nodes) (λ code. first_beyond (segments_of cuts.Items nodes) code ≡ None → HasRows code)
within_have_rows theirs ended main nodes =
    with_rows (segments_of cuts.Items nodes) (checked_module nodes) (theirs nodes) (ended nodes) (main nodes)
