-- What an instruction does, but for its values, is the same at threads and frames of one shape.
use Rattle.std.proofs.Common.{◌≡◌, ℕ, ◌-◌, List, length, map, set, Option, Some, None, Result, Ok, Err, refl, sym, ap, ◌∙◌}
use Rattle.std.proofs.lemmas.List.{length-map, map-set}
use Rattle.ir_types.specs.declared.instruction.Inst.{Inst}
use Rattle.ir_types.specs.declared.instruction.Inst.TheVariants.{Binary, Load, Store}
use Rattle.ir_types.specs.Kind.{size_of}
use Rattle.machine_model.specs.declared.state.Frame.{Frame}
use Rattle.machine_model.specs.declared.state.Object.{Object}
use Rattle.machine_model.specs.declared.state.Thread.{Thread}
use Rattle.run_types.specs.declared.trap.Trap.{Trap}
use Rattle.machine_model.specs.Effect.{Effect, Footprint, done_or_traps}
use Rattle.machine_model.specs.Effect.Effect.{NoRow}
use Rattle.machine_model.specs.Instruction.{address_in, done_unless, effect_of, sets, stores, test_in, trap_of_test}
use Rattle.machine_model.specs.Memory.{read, written}
use Rattle.machine_model.specs.Setting.{Setting}
use Rattle.machine_laws.specs.ShapeLaws.{InstructionsHaveShapes, shape_of_effect, shape_of_footprint, shape_of_frame, shape_of_object, shape_of_thread, zero_for}
use Rattle.machine_model.specs.Thread.{moved_on, moved_on_with, with_top}
use Rattle.machine_laws.proofs.MemoryShapes.{read-shape, shape_of_written, trap_in, written-shape}

with_top-shape : (thread : Thread) (frame : Frame) →
    shape_of_thread (with_top thread frame) ≡ with_top (shape_of_thread thread) (shape_of_frame frame)
with_top-shape thread frame =
    ap (λ frames. record (shape_of_thread thread) { frames = frames })
    (map-set shape_of_frame thread.frames (length thread.frames - 1) frame
    ∙ ap (λ count. set (map shape_of_frame thread.frames) (count - 1) (shape_of_frame frame))
    (sym (length-map thread.frames shape_of_frame)))

sets-shape : (footprint : Footprint) (frame : Frame) (to value : ℕ) →
    shape_of_footprint (sets footprint frame to value) ≡ sets (shape_of_footprint footprint) (shape_of_frame frame) to 0
sets-shape footprint frame to value =
    ap (λ thread. record (shape_of_footprint footprint) { thread = thread })
    (with_top-shape footprint.thread (moved_on_with frame to value)
    ∙ ap (λ registers. with_top (shape_of_thread footprint.thread) (record (moved_on frame) { registers = registers }))
    (map-set zero_for frame.registers to value))

stores-shape : (footprint : Footprint) (frame : Frame) (objects : List Object) →
    shape_of_footprint (stores footprint frame objects)
    ≡ stores (shape_of_footprint footprint) (shape_of_frame frame) (map shape_of_object objects)
stores-shape footprint frame objects =
    ap (λ thread. record { thread = thread; objects = map shape_of_object objects })
    (with_top-shape footprint.thread (moved_on frame))

-- what an instruction does, from shapes
abbrev shaped : Footprint → Frame → List ℕ → Inst → Effect Footprint
shaped footprint frame decided (Binary to op a b) = done_unless (sets footprint frame to 0) (trap_of_test op (test_in decided))
shaped footprint frame decided (Load to kind at) =
    done_unless (sets footprint frame to 0) (trap_in (read footprint.objects (address_in decided) (size_of kind)))
shaped footprint frame decided (Store kind value at) =
    done_or_traps (stores footprint frame) (written footprint.objects (address_in decided) (size_of kind) 0)
shaped footprint frame decided inst = NoRow

module _ (footprint : Footprint) (frame : Frame) where
  abbrev Shape : Effect Footprint → Effect Footprint
  Shape effect = shape_of_effect shape_of_footprint effect

  set-shape : (to value : ℕ) (trap : Option Trap) →
      Shape (done_unless (sets footprint frame to value) trap)
      ≡ done_unless (sets (shape_of_footprint footprint) (shape_of_frame frame) to 0) trap
  set-shape to value None = ap (Effect.Done 0) (sets-shape footprint frame to value)
  set-shape to value (Some trap) = refl

  load-shape : (to : ℕ) (value_of : ℕ → ℕ) (loaded : Result ℕ Trap) →
      Shape (done_or_traps (λ value. sets footprint frame to (value_of value)) loaded)
      ≡ done_unless (sets (shape_of_footprint footprint) (shape_of_frame frame) to 0) (trap_in loaded)
  load-shape to value_of (Ok value) = ap (Effect.Done 0) (sets-shape footprint frame to (value_of value))
  load-shape to value_of (Err trap) = refl

  store-shape : (written : Result (List Object) Trap) →
      Shape (done_or_traps (stores footprint frame) written)
      ≡ done_or_traps (stores (shape_of_footprint footprint) (shape_of_frame frame)) (shape_of_written written)
  store-shape (Ok objects) = ap (Effect.Done 0) (stores-shape footprint frame objects)
  store-shape (Err trap) = refl

  effect-shape : (setting : Setting) (number : ℕ) (decided : List ℕ) (inst : Inst) →
      Shape (effect_of setting number footprint frame decided inst)
      ≡ shaped (shape_of_footprint footprint) (shape_of_frame frame) decided inst
  unfolding effect_of
  effect-shape setting number decided (Binary to op a b) = set-shape to _ (trap_of_test op (test_in decided))
  effect-shape setting number decided (Load to kind at) =
      let place = address_in decided in
      load-shape to _ (read footprint.objects place (size_of kind))
      ∙ ap (done_unless (sets (shape_of_footprint footprint) (shape_of_frame frame) to 0))
      (read-shape footprint.objects place (size_of kind))
  effect-shape setting number decided (Store kind value at) =
      store-shape (written footprint.objects (address_in decided) (size_of kind) _)
      ∙ ap (done_or_traps (stores (shape_of_footprint footprint) (shape_of_frame frame)))
      (written-shape footprint.objects (address_in decided) (size_of kind) _)
  effect-shape setting number decided inst = refl

pub instructions-have_shapes : InstructionsHaveShapes
instructions-have_shapes setting number one other frame alike decided inst footprints frames =
    effect-shape one frame setting number decided inst
    ∙ ap (λ footprint. shaped footprint (shape_of_frame frame) decided inst) footprints
    ∙ ap (λ at. shaped (shape_of_footprint other) at decided inst) frames
    ∙ sym (effect-shape other alike setting number decided inst)
