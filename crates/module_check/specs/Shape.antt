-- The shapes of a body's blocks.
use Rattle.std.specs.Prelude.{ℕ, Bool, true, false, not, ◌&&◌, ◌||◌, List, [], ◌∷◌, Option, Some, None, if◌then◌else◌}
use Rattle.ir_read.specs.declared.terminal.Terminal.{Terminal}
use Rattle.ir_read.specs.declared.terminal.Terminal.TheVariants as t
use Rattle.ir_items.specs.Item.{body_of}
use Rattle.ir_items.specs.Segment.{Segment}
use Rattle.ir_items.specs.Statement.{Statement, is_label, statements_of}
use Rattle.module_fault.specs.declared.cause.Cause.{Cause}
use Rattle.module_fault.specs.declared.cause.Cause.TheVariants.{BadShape}
use Rattle.module_fault.specs.Cause.{unless}
use Rattle.module_fault.specs.declared.fault.Fault.{Fault}
use Rattle.module_check.specs.declared.shape.Phase.{Phase}
use Rattle.module_check.specs.declared.shape.Phase.TheVariants.{Open, Ended, Broken}
use Rattle.module_check.specs.declared.shape.Shape.{Shape}
use Rattle.module_check.specs.BodyNames.{begins_with_label}
use Rattle.module_fault.specs.Fault.{note}

-- ---- instructions

abbrev pub ends_block_by : Terminal → Bool
ends_block_by t.Br = true
ends_block_by t.Switch = true
ends_block_by t.Ret = true
ends_block_by t.Unreachable = true
ends_block_by _ = false

abbrev pub ends_block : Statement → Bool
ends_block instruction = ends_block_by instruction.operation.terminal

abbrev pub is_phi_by : Terminal → Bool
is_phi_by t.Phi = true
is_phi_by _ = false

abbrev pub is_phi : Statement → Bool
is_phi instruction = is_phi_by instruction.operation.terminal

-- ---- a block

-- an instruction more, which ends a block or not
abbrev pub phase_behind : Phase → Bool → Phase
phase_behind Open ends = if ends then Ended else Open
phase_behind Ended ends = Broken
phase_behind Broken ends = Broken

abbrev pub phase_from : Phase → List Statement → Phase
phase_from phase [] = phase
phase_from phase (instruction ∷ instructions) = phase_from (phase_behind phase (ends_block instruction)) instructions

-- the last one ends the block, and no other does
abbrev pub is_whole : List Statement → Bool
is_whole [] = false
is_whole (last ∷ []) = ends_block last
is_whole (instruction ∷ next ∷ instructions) = not (ends_block instruction) && is_whole (next ∷ instructions)

abbrev pub phase_cause : Phase → Option Cause
phase_cause Open = Some BadShape
phase_cause Ended = None
phase_cause Broken = Some BadShape

-- ---- a body

-- a block is at fault at its last instruction, or where it has none at its label, or at the function
abbrev pub closed : Shape → Shape
closed done = record {
  line = done.line;
  phase = done.phase;
  at_front = done.at_front;
  first = note done.first done.line (phase_cause done.phase);
}

abbrev pub opened : Shape → ℕ → Shape
opened done line = record { line = line; phase = Open; at_front = true; first = done.first }

-- a phi stands behind phis alone
abbrev pub with_instruction : Shape → Statement → Shape
with_instruction done instruction = record {
  line = instruction.line;
  phase = phase_behind done.phase (ends_block instruction);
  at_front = done.at_front && is_phi instruction;
  first = note done.first instruction.line (unless (not (is_phi instruction) || done.at_front) BadShape);
}

-- a label ends the block before it
abbrev pub with_statement : Shape → Statement → Shape
with_statement done statement =
    if is_label statement then opened (closed done) statement.line else with_instruction done statement

abbrev pub shape_from : Shape → List Statement → Shape
shape_from done [] = done
shape_from done (statement ∷ statements) = shape_from (with_statement done statement) statements

-- before a label is nothing that must be ended
abbrev pub first_phase : Bool → Phase
first_phase is_labelled = if is_labelled then Ended else Open

abbrev pub no_statements : ℕ → Bool → Shape
no_statements line is_labelled = record { line = line; phase = first_phase is_labelled; at_front = true; first = None }

abbrev pub shape_fault : Segment → Option Fault
shape_fault item =
    let body = body_of item in
    (closed (shape_from (no_statements item.first.line (begins_with_label body)) (statements_of body))).first
