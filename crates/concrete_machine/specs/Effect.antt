-- What the code of instructions answers that change only their thread and the objects.
use Rattle.std.specs.Prelude.{◌≡◌, List}
use Rattle.machine_model.specs.declared.state.Object.{Object}
use Rattle.machine_model.specs.declared.state.Thread.{Thread}
use Rattle.machine_model.specs.Effect.{Effect, Footprint}
use Rattle.machine_model.specs.Effect.Effect.{Done, Traps, NoRow}
use Rattle.concrete_machine.specs.declared.effect.Effect.{Effect as Answer}
use Rattle.concrete_machine.specs.declared.effect.Effect.TheVariants as answers

abbrev pub footprint_with : Thread → List Object → Footprint
footprint_with thread objects = record { thread = thread; objects = objects }

-- what an instruction answers that costs nothing beyond 1
abbrev pub Effects : Answer → Footprint → Footprint → Effect Footprint → Type 0
Effects answers.Done before after effect = effect ≡ Done 0 after
Effects (answers.Traps trap) before after effect = (effect ≡ Traps trap) × (after ≡ before)
Effects answers.NoRow before after effect = (effect ≡ NoRow) × (after ≡ before)
