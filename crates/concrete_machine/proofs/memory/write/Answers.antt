use Rattle.std.proofs.Common.{◌≡◌, ◌<◌, false, length, sym, ap, ◌∙◌}
use Rattle.std.specs.Prelude.{position, Some}
use Rattle.std.proofs.lemmas.List.Quantifiers.{position-Some}
use Rattle.machine_model.specs.Memory.{covers, is_constant, with_bytes, bytes_of}
use Rattle.concrete_machine.proofs.Ranges.{item-again, written-found}
use Rattle.concrete_machine.proofs.memory.write.Goals as goal

pub spell_at-requires : goal.spell_at-requires
spell_at-requires c =
    (position-Some (covers c.args.at c.args.len) c.args.objects.now c.in-Some.place c.index-objects-place-2.result (cc)).1

pub returns : goal.returns
returns c =
    let objects = c.args.objects.now in
    let place = c.in-Some.place in
    let object = c.index-objects-place.result in
    let found : position (covers c.args.at c.args.len) objects ≡ Some place = cc in
    let within : place < length objects = (position-Some (covers c.args.at c.args.len) objects place object found).0 in
    let same = item-again objects place object c.index-objects-place-2.result within c.index-objects-place.is c.index-objects-place-2.is in
    let plain : is_constant object.kind ≡ false = cc in
    written-found objects c.args.at c.args.len c.args.number place object c.spell_at.new.object found c.index-objects-place.is plain
    (c.spell_at.ensures
    ∙ ap (λ other. with_bytes other c.args.at (bytes_of c.args.len c.args.number)) (sym c.index-objects-place-2.is ∙ sym same))
