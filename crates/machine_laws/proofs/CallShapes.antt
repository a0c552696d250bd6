-- What a call does, but for its values, is the same where what is shared has one shape.
use Rattle.std.proofs.Common.{◌≡◌, ℕ, Bool, true, false, cond, leb, eqb, List, [], ◌∷◌, ◌++◌, length, map, Option, Some, None, Result, Ok, Err, refl, sym, ap, ◌∙◌}
use Rattle.std.specs.Prelude.{option_map, slice_get, slice_set}
use Rattle.std.proofs.lemmas.List.{length-map, map-append, map-set}
use Rattle.std.proofs.lemmas.Option.{slice_get-map}
use Rattle.ir_types.specs.declared.external.Extern.{Extern}
use Rattle.ir_types.specs.declared.external.Extern.TheVariants.{Create, Join, Putchar}
use Rattle.ir_types.specs.declared.external.ItemKind.TheVariants.{Byte}
use Rattle.machine_model.specs.declared.state.Object.{Object}
use Rattle.run_types.specs.declared.trap.Trap.{Trap}
use Rattle.machine_model.specs.Call.{Returned, again, call_of, created, is_awaited, is_blocked, joined, joined_at, joined_in, joined_or_traps, most_threads, place_in, result_of, result_place_in, with_result}
use Rattle.machine_model.specs.Effect.{Effect, done_or_traps}
use Rattle.machine_model.specs.Effect.Effect.{Done, NoRow}
use Rattle.machine_model.specs.Memory.{written}
use Rattle.machine_model.specs.Shared.{End, Shared, open_end}
use Rattle.machine_laws.specs.ShapeLaws.{CallsHaveShapes, WaitsHaveShapes, shape_of_effect, shape_of_end, shape_of_object, shape_of_returned, shape_of_shared}
use Rattle.machine_laws.proofs.MemoryShapes.{shape_of_written, written-shape}

-- a call that gives 0 and prints nothing, and leaves this
abbrev gave : Shared → Returned
gave shared = record { shared = shared; result = Some 0; items = [] }

abbrev with_thread : Shared → List Object → Shared
with_thread shared objects = record shared { objects = objects; ends = shared.ends ++ open_end ∷ [] }

-- the rows, from shapes
abbrev shaped_created : Shared → ℕ → Effect Returned
shaped_created shared at =
    cond (leb most_threads (length shared.ends)) (Done 0 (gave shared))
    (done_or_traps (λ objects. gave (with_thread shared objects)) (written shared.objects at 8 0))

abbrev shaped_joined : Shared → ℕ → ℕ → Effect Returned
shaped_joined shared thread at =
    joined_or_traps shared thread (slice_get shared.ends thread)
    (cond (eqb at 0) (Ok shared.objects) (written shared.objects at 8 0))

abbrev shaped : Shared → Extern → List ℕ → Effect Returned
shaped shared (Create function) decided = shaped_created shared (place_in decided)
shaped shared Join decided = shaped_joined shared (joined_in decided) (result_place_in decided)
shaped shared Putchar decided =
    Done 0 (record { shared = shared; result = None; items = record { kind = Byte; bits = 0 } ∷ [] })
shaped shared which decided = NoRow

module _ (shared : Shared) where
  abbrev Shape : Effect Returned → Effect Returned
  Shape effect = shape_of_effect shape_of_returned effect

  created-shape : (at : ℕ) → Shape (created shared at) ≡ shaped_created (shape_of_shared shared) at
  created-shape at =
      of_count (leb most_threads (length shared.ends))
      ∙ ap (λ count. cond (leb most_threads count) (Done 0 (gave (shape_of_shared shared))) made)
      (sym (length-map shared.ends shape_of_end))
    where
      made : Effect Returned
      made = done_or_traps (λ objects. gave (with_thread (shape_of_shared shared) objects))
          (written (map shape_of_object shared.objects) at 8 0)

      of_objects : (stored : Result (List Object) Trap) →
          Shape (done_or_traps (λ objects. gave (with_thread shared objects)) stored)
          ≡ done_or_traps (λ objects. gave (with_thread (shape_of_shared shared) objects)) (shape_of_written stored)
      of_objects (Ok objects) =
          ap (λ ends. Done 0 (gave (record (shape_of_shared shared) { objects = map shape_of_object objects; ends = ends })))
          (map-append shape_of_end shared.ends (open_end ∷ []))
      of_objects (Err trap) = refl

      of_count : (full : Bool) →
          Shape (cond full (Done 0 (record (gave shared) { result = Some again }))
          (done_or_traps (λ objects. gave (with_thread shared objects)) (written shared.objects at 8 (length shared.ends))))
          ≡ cond full (Done 0 (gave (shape_of_shared shared))) made
      of_count true = refl
      of_count false =
          of_objects (written shared.objects at 8 (length shared.ends))
          ∙ ap (done_or_traps (λ objects. gave (with_thread (shape_of_shared shared) objects)))
          (written-shape shared.objects at 8 (length shared.ends))

  joined-shape : (thread at : ℕ) → Shape (joined shared thread at) ≡ shaped_joined (shape_of_shared shared) thread at
  joined-shape thread at =
      of_result (slice_get shared.ends thread) (with_result shared.objects (slice_get shared.ends thread) at)
      ∙ ap (λ end. joined_or_traps (shape_of_shared shared) thread end
      (shape_of_written (with_result shared.objects (slice_get shared.ends thread) at)))
      (sym (slice_get-map shape_of_end shared.ends thread))
      ∙ ap (joined_or_traps (shape_of_shared shared) thread (slice_get (map shape_of_end shared.ends) thread))
      (of_place (result_of (slice_get shared.ends thread)) (eqb at 0))
    where
      of_end : (end : Option End) (objects : List Object) →
          Shape (joined_at shared thread end objects)
          ≡ joined_at (shape_of_shared shared) thread (option_map shape_of_end end) (map shape_of_object objects)
      of_end None objects = refl
      of_end (Some end) objects = of_joined end.joined
        where
          done : Returned
          done = gave (record shared { objects = objects; ends = slice_set shared.ends thread (record end { joined = true }) })

          of_joined : (was : Bool) →
              Shape (cond was (Effect.Traps Trap.BadJoin) (Done 0 done))
              ≡ cond was (Effect.Traps Trap.BadJoin) (Done 0 (gave (record (shape_of_shared shared) {
                objects = map shape_of_object objects;
                ends = slice_set (map shape_of_end shared.ends) thread (record (shape_of_end end) { joined = true });
              })))
          of_joined true = refl
          of_joined false =
              ap (λ ends. Done 0 (gave (record (shape_of_shared shared) { objects = map shape_of_object objects; ends = ends })))
              (map-set shape_of_end shared.ends thread (record end { joined = true }))

      of_result : (end : Option End) (result : Result (List Object) Trap) →
          Shape (joined_or_traps shared thread end result)
          ≡ joined_or_traps (shape_of_shared shared) thread (option_map shape_of_end end) (shape_of_written result)
      of_result end (Err trap) = refl
      of_result end (Ok objects) = of_end end objects

      of_place : (number : ℕ) (null : Bool) →
          shape_of_written (cond null (Ok shared.objects) (written shared.objects at 8 number))
          ≡ cond null (Ok (map shape_of_object shared.objects)) (written (map shape_of_object shared.objects) at 8 0)
      of_place number true = refl
      of_place number false = written-shape shared.objects at 8 number

  call-shape : (caller : ℕ) (which : Extern) (arguments decided : List ℕ) →
      Shape (call_of shared caller which arguments decided) ≡ shaped (shape_of_shared shared) which decided
  unfolding call_of
  call-shape caller (Create function) arguments decided = created-shape (place_in decided)
  call-shape caller Join arguments decided = joined-shape (joined_in decided) (result_place_in decided)
  call-shape caller Putchar arguments decided = refl
  call-shape caller which arguments decided = refl

  awaited-shape : (thread : ℕ) →
      is_awaited (slice_get shared.ends thread) ≡ is_awaited (slice_get (map shape_of_end shared.ends) thread)
  awaited-shape thread =
      of_end (slice_get shared.ends thread) ∙ ap is_awaited (sym (slice_get-map shape_of_end shared.ends thread))
    where
      of_end : (end : Option End) → is_awaited end ≡ is_awaited (option_map shape_of_end end)
      of_end None = refl
      of_end (Some end) = of_ended end.result
        where
          of_ended : (result : Option ℕ) →
              is_awaited (Some (record end { result = result })) ≡ is_awaited (Some (shape_of_end (record end { result = result })))
          of_ended None = refl
          of_ended (Some value) = refl

pub calls-have_shapes : CallsHaveShapes
calls-have_shapes one other caller which arguments alike decided same =
    call-shape one caller which arguments decided
    ∙ ap (λ shared. shaped shared which decided) same
    ∙ sym (call-shape other caller which alike decided)

pub waits-have_shapes : WaitsHaveShapes
unfolding is_blocked
waits-have_shapes one other caller Join decided same =
    awaited-shape one (joined_in decided)
    ∙ ap (λ (shared : Shared). is_awaited (slice_get shared.ends (joined_in decided))) same
    ∙ sym (awaited-shape other (joined_in decided))
waits-have_shapes one other caller which decided same = refl
