use Rattle.std.proofs.Common.{map}
use Rattle.ir_types.specs.declared.«module».Module.{Module}
use Rattle.machine_model.specs.MemoryLaws.{AreApart}
use Rattle.machine_model.specs.Start.{object_of_global}
use Rattle.module_build.proofs.Apart.{LawsOfGlobals, objects_apart}
use Rattle.module_build.proofs.Texts.{texts_hold}
use Rattle.module_build.proofs.laws.globals_of_texts_lie_apart.Goals as goal

pub returns : goal.returns
returns c =
    let P : Module → Type 0 = λ code. AreApart (map object_of_global code.globals) in
    let laws : LawsOfGlobals = record {
      lie = c.globals_lie_apart.ensures;
      there = c.globals_lie_where_placed.ensures;
      sizes = c.images_have_their_sizes.ensures;
    } in
    texts_hold P (objects_apart laws c.segments_are_the_nodes.ensures.whole) c.read_is_spelled.ensures.read c.tokens_are_few.ensures
