-- The place of a frame from which its block is whole: there is an instruction that has a row, and unless this ends the
-- block, the block is whole from the next place on.
use Rattle.std.proofs.Common.{◌≡◌, ℕ, zero, suc, ◌+◌, ◌<◌, true, false, List, [], ◌∷◌, drop, Option, Some, None, refl}
use Rattle.std.specs.Prelude.{IsTrue, length, slice_get}
use Rattle.std.proofs.Math.Numerals.{add-one}
use Rattle.std.proofs.lemmas.Bool.{and_parts}
use Rattle.ir_types.specs.declared.instruction.Inst.{Inst}
use Rattle.ir_types.specs.declared.«module».Block.{Block}
use Rattle.ir_types.specs.declared.«module».Module.{Module}
use Rattle.machine_model.specs.declared.state.Frame.{Frame}
use Rattle.machine_model.specs.Code.{Placed, blocks_of, next_in}
use Rattle.machine_model.specs.Rows.{HasRows, HasWholeBlocks, ends_block, has_row, is_whole}
use Rattle.machine_model.specs.Thread.{entered, moved_on}
use Rattle.machine_model.proofs.Places.{All-slice_get, slice_get-some}

abbrev insts_of : Option Block → List Inst
insts_of None = []
insts_of (Some block) = block.insts

-- the instructions of a frame's block from its place on
abbrev rest_of_block : Module → Frame → List Inst
rest_of_block code frame =
    drop frame.place (insts_of (slice_get (blocks_of (slice_get code.functions frame.function)) frame.block))

abbrev pub IsWhole : Module → Frame → Type 0
IsWhole code frame = IsTrue (is_whole code (rest_of_block code frame))

-- the next instruction of a frame
pub record HasNext (code : Module) (frame : Frame) : Type 0 where
  pub placed : Placed
  pub is : next_in code frame ≡ Some placed
  pub row : has_row code placed.inst ≡ true
  pub on : ends_block placed.inst ≡ false → IsWhole code (moved_on frame)

record HasInst (code : Module) (insts : List Inst) (place : ℕ) : Type 0 where
  inst : Inst
  is : slice_get insts place ≡ Some inst
  row : has_row code inst ≡ true
  on : ends_block inst ≡ false → IsTrue (is_whole code (drop (suc place) insts))

whole-inst : (code : Module) (insts : List Inst) (place : ℕ) → IsTrue (is_whole code (drop place insts)) → HasInst code insts place
unfolding is_whole
whole-inst code [] zero whole = absurd (let h : ⊥ = cc in h)
whole-inst code [] (suc place) whole = absurd (let h : ⊥ = cc in h)
whole-inst code (inst ∷ insts) zero whole =
    let parts = and_parts (has_row code inst) _ whole in
    record { inst = inst; is = refl; row = parts.0; on = λ goes. rw goes at parts.1 }
whole-inst code (inst ∷ insts) (suc place) whole =
    let rest = whole-inst code insts place whole in
    record { inst = rest.inst; is = rest.is; row = rest.row; on = rest.on }

pub whole-next : (code : Module) (frame : Frame) → IsWhole code frame → HasNext code frame
unfolding next_in
whole-next code frame whole = go (slice_get blocks frame.block) refl (whole-inst code (insts_of (slice_get blocks frame.block)) frame.place whole)
  where
    blocks : List Block
    blocks = blocks_of (slice_get code.functions frame.function)

    go : (block : Option Block) → slice_get blocks frame.block ≡ block → HasInst code (insts_of block) frame.place → HasNext code frame
    go None is has = absurd (let none : None ≡ Some has.inst = has.is in let h : ⊥ = cc in h)
    go (Some block) is has = record {
      placed = record { site = record { function = frame.function; inst = block.first + frame.place }; inst = has.inst };
      is = rw (is, has.is) refl;
      row = has.row;
      on = λ goes. rw (is, add-one) (has.on goes);
    }

-- a thread enters a function at the front of its first block
pub entered-whole : (code : Module) (function : ℕ) (arguments : List ℕ) → HasRows code → function < length code.functions →
    IsWhole code (entered code function arguments)
entered-whole code function arguments rows within =
    let entry = slice_get-some code.functions function within in
    let has = All-slice_get (HasWholeBlocks code) code.functions function entry.0 rows.whole entry.1 in
    let block = slice_get-some entry.0.blocks 0 has.0 in
    rw (entry.1, block.1) (All-slice_get (λ (block : Block). IsTrue (is_whole code block.insts)) entry.0.blocks 0 block.0 has.1 block.1)
