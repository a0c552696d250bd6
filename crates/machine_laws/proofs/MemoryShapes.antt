-- Which range an access finds, and what a store leaves, but for what the bytes are.
use Rattle.std.proofs.Common.{◌≡◌, ℕ, zero, suc, ◌+◌, ◌-◌, ◌/◌, Bool, true, false, cond, leb, List, [], ◌∷◌, map, set, Option, Some, None, Result, Ok, Err, refl, sym, ap, ◌∙◌}
use Rattle.std.specs.Prelude.{option_map, position, slice_get, ◌&&◌}
use Rattle.std.specs.List.{position_or_len}
use Rattle.std.proofs.lemmas.List.{drop-map, length-map, map-append, map-set, take-map}
use Rattle.std.proofs.lemmas.Option.{slice_get-map}
use Rattle.machine_model.specs.declared.state.Object.{Object}
use Rattle.run_types.specs.declared.trap.Trap.{Trap}
use Rattle.run_types.specs.declared.trap.Trap.TheVariants.{ReadOnly}
use Rattle.machine_model.specs.Memory.{bytes_of, covers, is_constant, object_at, object_of, overwritten, read, read_from, with_bytes, with_place, write_to, written}
use Rattle.machine_laws.specs.ShapeLaws.{shape_of_object, zero_for}
use Rattle.machine_laws.proofs.Bytes.{length-bytes_of}

covers-shape : (at len : ℕ) (object : Object) → covers at len (shape_of_object object) ≡ covers at len object
covers-shape at len object =
    ap (λ count. object.live && leb object.base at && leb (at + len) (object.base + count)) (length-map object.bytes zero_for)

place-shape : (at len : ℕ) (objects : List Object) →
    position_or_len (covers at len) (map shape_of_object objects) ≡ position_or_len (covers at len) objects
place-shape at len [] = refl
place-shape at len (object ∷ objects) = rw (covers-shape at len object, place-shape at len objects) refl

abbrev shape_of_found : ℕ × Object → ℕ × Object
shape_of_found found = (found.0, shape_of_object found.1)

object_at-shape : (objects : List Object) (place : Option ℕ) →
    object_at (map shape_of_object objects) place ≡ option_map shape_of_found (object_at objects place)
object_at-shape objects None = refl
object_at-shape objects (Some place) =
    ap (with_place place) (slice_get-map shape_of_object objects place) ∙ of_object (slice_get objects place)
  where
    of_object : (object : Option Object) →
        with_place place (option_map shape_of_object object) ≡ option_map shape_of_found (with_place place object)
    of_object None = refl
    of_object (Some object) = refl

object_of-shape : (objects : List Object) (at len : ℕ) →
    object_of (map shape_of_object objects) at len ≡ option_map shape_of_found (object_of objects at len)
object_of-shape objects at len =
    let same : position (covers at len) (map shape_of_object objects) ≡ position (covers at len) objects =
    rw (place-shape at len objects, length-map objects shape_of_object) refl in
    ap (object_at (map shape_of_object objects)) same ∙ object_at-shape objects (position (covers at len) objects)

-- why there is no value, where there is none
abbrev pub trap_in : {A : Type 0} → Result A Trap → Option Trap
trap_in (Ok value) = None
trap_in (Err trap) = Some trap

pub read-shape : (objects : List Object) (at len : ℕ) →
    trap_in (read objects at len) ≡ trap_in (read (map shape_of_object objects) at len)
unfolding read
read-shape objects at len =
    of_found (object_of objects at len)
    ∙ ap (λ found. trap_in (read_from found at len)) (sym (object_of-shape objects at len))
  where
    of_found : (found : Option (ℕ × Object)) →
        trap_in (read_from found at len) ≡ trap_in (read_from (option_map shape_of_found found) at len)
    of_found None = refl
    of_found (Some found) = refl

zeroes-bytes_of : (len number : ℕ) → map zero_for (bytes_of len number) ≡ bytes_of len 0
unfolding bytes_of
zeroes-bytes_of zero number = refl
zeroes-bytes_of (suc len) number = ap (λ bytes. 0 ∷ bytes) (zeroes-bytes_of len (number / 256))

zeroes-overwritten : (bytes : List ℕ) (at len number : ℕ) →
    map zero_for (overwritten bytes at (bytes_of len number)) ≡ overwritten (map zero_for bytes) at (bytes_of len 0)
zeroes-overwritten bytes at len number =
    let long = length-bytes_of len number in
    let short = length-bytes_of len 0 in
    rw (long, short, map-append, map-append, zeroes-bytes_of, take-map, drop-map) refl

abbrev pub shape_of_written : Result (List Object) Trap → Result (List Object) Trap
shape_of_written (Ok objects) = Ok (map shape_of_object objects)
shape_of_written (Err trap) = Err trap

pub written-shape : (objects : List Object) (at len number : ℕ) →
    shape_of_written (written objects at len number) ≡ written (map shape_of_object objects) at len 0
unfolding written
written-shape objects at len number =
    of_found (object_of objects at len)
    ∙ ap (λ found. write_to (map shape_of_object objects) found at (bytes_of len 0)) (sym (object_of-shape objects at len))
  where
    of_kind : (place : ℕ) (object : Object) (constant : Bool) →
        shape_of_written (cond constant (Err ReadOnly) (Ok (set objects place (with_bytes object at (bytes_of len number)))))
        ≡ cond constant (Err ReadOnly)
        (Ok (set (map shape_of_object objects) place (with_bytes (shape_of_object object) at (bytes_of len 0))))
    of_kind place object true = refl
    of_kind place object false =
        ap Ok (map-set shape_of_object objects place _
        ∙ ap (λ list. set (map shape_of_object objects) place (record object { bytes = list }))
        (zeroes-overwritten object.bytes (at - object.base) len number))

    of_found : (found : Option (ℕ × Object)) →
        shape_of_written (write_to objects found at (bytes_of len number))
        ≡ write_to (map shape_of_object objects) (option_map shape_of_found found) at (bytes_of len 0)
    of_found None = refl
    of_found (Some found) = of_kind found.0 found.1 (is_constant found.1.kind)
