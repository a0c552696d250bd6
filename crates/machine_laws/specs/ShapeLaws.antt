-- What an instruction or a call does by its decided numbers alone. Whether it traps, what it costs, where it writes,
-- where the thread goes on and what is made and ended are the same whatever registers, bytes and results hold: these
-- have a part only in values.
use Rattle.std.specs.Prelude.{◌≡◌, ℕ, List, map, option_map}
use Rattle.ir_types.specs.declared.external.Extern.{Extern}
use Rattle.ir_types.specs.declared.instruction.Inst.{Inst}
use Rattle.machine_model.specs.declared.state.Frame.{Frame}
use Rattle.machine_model.specs.declared.state.Object.{Object}
use Rattle.run_types.specs.declared.out_item.OutItem.{OutItem}
use Rattle.machine_model.specs.declared.state.Thread.{Thread}
use Rattle.machine_model.specs.Call.{Returned, call_of, is_blocked}
use Rattle.machine_model.specs.Effect.{Effect, Footprint}
use Rattle.machine_model.specs.Effect.Effect.{Done, Pauses, Exits, Traps, Blocks, NoRow}
use Rattle.machine_model.specs.Instruction.{effect_of}
use Rattle.machine_model.specs.Setting.{Setting}
use Rattle.machine_model.specs.Shared.{End, Shared}

-- a shape is what is left where each value is 0
abbrev pub zero_for : ℕ → ℕ
zero_for value = 0

abbrev pub shape_of_object : Object → Object
shape_of_object object = record object { bytes = map zero_for object.bytes }

abbrev pub shape_of_frame : Frame → Frame
shape_of_frame frame = record frame { registers = map zero_for frame.registers }

abbrev pub shape_of_thread : Thread → Thread
shape_of_thread thread = record thread {
  frames = map shape_of_frame thread.frames;
  ended = option_map zero_for thread.ended;
}

abbrev pub shape_of_footprint : Footprint → Footprint
shape_of_footprint footprint = record {
  thread = shape_of_thread footprint.thread;
  objects = map shape_of_object footprint.objects;
}

abbrev pub shape_of_end : End → End
shape_of_end end = record end { result = option_map zero_for end.result }

abbrev pub shape_of_shared : Shared → Shared
shape_of_shared shared = record shared {
  objects = map shape_of_object shared.objects;
  ends = map shape_of_end shared.ends;
}

abbrev pub shape_of_item : OutItem → OutItem
shape_of_item item = record item { bits = 0 }

abbrev pub shape_of_returned : Returned → Returned
shape_of_returned call = record {
  shared = shape_of_shared call.shared;
  result = option_map zero_for call.result;
  items = map shape_of_item call.items;
}

-- the status of an exit is a value
abbrev pub shape_of_effect : {S : Type 0} → (S → S) → Effect S → Effect S
shape_of_effect shape (Done more after) = Done more (shape after)
shape_of_effect shape (Pauses more after) = Pauses more (shape after)
shape_of_effect shape (Exits more status after) = Exits more 0 (shape after)
shape_of_effect shape (Traps trap) = Traps trap
shape_of_effect shape Blocks = Blocks
shape_of_effect shape NoRow = NoRow

-- of an instruction, at two threads and frames of one shape
abbrev pub InstructionsHaveShapes : Type 0
InstructionsHaveShapes =
    (setting : Setting) (number : ℕ) (one other : Footprint) (frame alike : Frame) (decided : List ℕ) (inst : Inst) →
    shape_of_footprint one ≡ shape_of_footprint other → shape_of_frame frame ≡ shape_of_frame alike →
    shape_of_effect shape_of_footprint (effect_of setting number one frame decided inst)
    ≡ shape_of_effect shape_of_footprint (effect_of setting number other alike decided inst)

-- of a call, whatever its arguments
abbrev pub CallsHaveShapes : Type 0
CallsHaveShapes =
    (one other : Shared) (caller : ℕ) (which : Extern) (arguments alike decided : List ℕ) →
    shape_of_shared one ≡ shape_of_shared other →
    shape_of_effect shape_of_returned (call_of one caller which arguments decided)
    ≡ shape_of_effect shape_of_returned (call_of other caller which alike decided)

-- whether a call waits
abbrev pub WaitsHaveShapes : Type 0
WaitsHaveShapes =
    (one other : Shared) (caller : ℕ) (which : Extern) (decided : List ℕ) → shape_of_shared one ≡ shape_of_shared other →
    is_blocked one caller which decided ≡ is_blocked other caller which decided
