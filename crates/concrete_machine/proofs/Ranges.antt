-- The object that has a range of bytes.
use Rattle.std.proofs.Common.{◌≡◌, ℕ, ◌<◌, true, false, cond, List, length, get_or, set, Some, Ok, Err, refl, sym, ap, ◌∙◌}
use Rattle.std.specs.Prelude.{position}
use Rattle.std.proofs.lemmas.List.Quantifiers.{position-Some}
use Rattle.std.proofs.lemmas.Option.{slice_get_read}
use Rattle.machine_model.specs.declared.state.Object.{Object}
use Rattle.run_types.specs.declared.trap.Trap.TheVariants.{ReadOnly}
use Rattle.machine_model.specs.Memory.{bytes_of, covers, is_constant, object_at, object_of, with_bytes, with_place, write_to, written}

pub covers-found : (objects : List Object) (at len place : ℕ) (object : Object) →
    position (covers at len) objects ≡ Some place → object ≡ get_or objects place object →
    covers at len object ≡ true
covers-found objects at len place object found is =
    ap (covers at len) is ∙ (position-Some (covers at len) objects place object found).1

pub object_of-found : (objects : List Object) (at len place : ℕ) (object : Object) →
    position (covers at len) objects ≡ Some place → object ≡ get_or objects place object →
    object_of objects at len ≡ Some (place, object)
object_of-found objects at len place object found is =
    let within = (position-Some (covers at len) objects place object found).0 in
    ap (object_at objects) found
    ∙ ap (with_place place) (slice_get_read objects (length objects) place object refl within is)

-- the place has one object, whatever is read past the end
pub item-again : (objects : List Object) (place : ℕ) (object other : Object) → place < length objects →
    object ≡ get_or objects place object → other ≡ get_or objects place other → object ≡ other
item-again objects place object other within is again =
    let one = slice_get_read objects (length objects) place object refl within is in
    let two = slice_get_read objects (length objects) place other refl within again in
    cc

-- the bytes of the object that has the range are written
pub written-found : (objects : List Object) (at len number place : ℕ) (object changed : Object) →
    position (covers at len) objects ≡ Some place → object ≡ get_or objects place object →
    is_constant object.kind ≡ false → changed ≡ with_bytes object at (bytes_of len number) →
    written objects at len number ≡ Ok (set objects place changed)
unfolding written
written-found objects at len number place object changed found is plain change =
    ap (λ answer. write_to objects answer at (bytes_of len number)) (object_of-found objects at len place object found is)
    ∙ ap (λ constant. cond constant (Err ReadOnly) (Ok (set objects place (with_bytes object at (bytes_of len number))))) plain
    ∙ ap (λ other. Ok (set objects place other)) (sym change)
