-- Threads and their frames: the values of operands, and what setting a register leaves.
use Rattle.std.specs.Prelude.{ℕ, ◌+◌, ◌-◌, Bool, false, List, [], ◌∷◌, ◌++◌, length, replicate, Option, Some, None, is_some, slice_get, slice_index, slice_index_or, slice_set}
use Rattle.ir_types.specs.declared.instruction.Operand.{Operand}
use Rattle.ir_types.specs.declared.instruction.Operand.TheVariants.{Register, Constant}
use Rattle.ir_types.specs.declared.word.Width.{Width}
use Rattle.ir_types.specs.declared.word.Kind.TheVariants.{Ptr}
use Rattle.ir_types.specs.declared.«module».Module.{Module}
use Rattle.ir_types.specs.Kind.{width_of}
use Rattle.machine_model.specs.declared.state.Frame.{Frame}
use Rattle.machine_model.specs.declared.state.Thread.{Thread}
use Rattle.machine_model.specs.declared.state.Operation.TheVariants.{Start}
use Rattle.machine_model.specs.Code.{registers_of}

-- the frame that runs
abbrev pub top : Thread → Option Frame
top thread = slice_get thread.frames (length thread.frames - 1)

abbrev pub with_top : Thread → Frame → Thread
with_top thread frame = record thread { frames = slice_set thread.frames (length thread.frames - 1) frame }

abbrev pub has_ended : Thread → Bool
has_ended thread = is_some thread.ended

-- a function's first frame: its arguments are its first registers, and the others hold 0
abbrev pub entered : Module → ℕ → List ℕ → Frame
entered code function arguments =
    let count = length (registers_of (slice_get code.functions function)) in
    record {
      function = function;
      block = 0;
      place = 0;
      registers = arguments ++ replicate (count - length arguments) 0;
      stack = [];
    }

-- a thread that has not started
abbrev pub made : Module → ℕ → List ℕ → Thread
made code function arguments =
    record {
      frames = entered code function arguments ∷ [];
      pending = Start;
      ended = None;
      joined = false;
    }

-- the number of an operand
abbrev pub value_of : Frame → Operand → ℕ
value_of frame (Register register) = slice_index frame.registers register
value_of frame (Constant word) = word.bits

abbrev pub width_of_operand : Module → Frame → Operand → Width
width_of_operand code frame (Register register) =
    width_of (slice_index_or (registers_of (slice_get code.functions frame.function)) register Ptr)
width_of_operand code frame (Constant word) = word.width

-- the frame goes on to the next instruction
abbrev pub moved_on : Frame → Frame
moved_on frame = record frame { place = frame.place + 1 }

-- and has a number in a register
abbrev pub moved_on_with : Frame → ℕ → ℕ → Frame
moved_on_with frame register number =
    record frame { place = frame.place + 1; registers = slice_set frame.registers register number }

-- a call's result goes into its register, where it has both
abbrev pub moved_on_after : Frame → Option ℕ → Option ℕ → Frame
moved_on_after frame (Some register) (Some number) = moved_on_with frame register number
moved_on_after frame (Some register) None = moved_on frame
moved_on_after frame None result = moved_on frame
