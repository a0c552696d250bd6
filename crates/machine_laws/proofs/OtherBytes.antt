-- A store leaves every object where it was, and all bytes but its own.
use Rattle.std.proofs.Common.{◌≡◌, ℕ, ◌+◌, ◌-◌, ◌<◌, Bool, true, false, cond, ltb, eqb, List, map, length, set, Some, None, Ok, refl, sym, ap, ◌∙◌, subst, arith, length-set}
use Rattle.std.specs.Prelude.{slice_get}
use Rattle.std.specs.List.{position_or_len}
use Rattle.std.proofs.Math.Seq.{map-set_same}
use Rattle.std.proofs.lemmas.Bool.{ltb-true, eqb-false, eqb-true}
use Rattle.std.proofs.lemmas.List.Folds.{position_or_len-set}
use Rattle.std.proofs.lemmas.List.Sums.{passes_at_first}
use Rattle.std.proofs.lemmas.Option.{get_or_from_slice_get}
use Rattle.machine_model.specs.declared.state.Object.{Object}
use Rattle.machine_model.specs.Memory.{bytes_of, covers, number_of, object_at, object_of, read, read_from, with_bytes, with_place}
use Rattle.machine_model.specs.MemoryLaws.{Extent, IsApart, StoreKeepsExtents, StoreKeepsOtherBytes, extent_of}
use Rattle.machine_laws.proofs.Bytes.{length-bytes_of, kept-overwritten}
use Rattle.machine_model.proofs.Places.{slice_get-other, slice_get-own}
use Rattle.machine_laws.proofs.Stores.{IsCovered, IsCovered-from_test, covers-with_bytes, length-with_bytes, store-of}

pub extents-kept : StoreKeepsExtents
extents-kept objects after at len number stored =
    let store = store-of objects after at len number stored in
    let object = store.object in
    let with_count : ℕ → Extent = λ count. record (extent_of object) { count = count } in
    subst (λ (list : List Object). map extent_of list ≡ map extent_of objects) store.stores
    (map-set_same extent_of objects store.place (with_bytes object at (bytes_of len number)) object
    (ap with_count (length-with_bytes at len number object store.covered)
    ∙ ap extent_of (sym (get_or_from_slice_get objects store.place object object store.there))))

-- where an object is replaced by one that covers the same ranges, and holds the same bytes of this one
read-set : (objects : List Object) (place : ℕ) (object changed : Object) (at len : ℕ) →
    slice_get objects place ≡ Some object → covers at len changed ≡ covers at len object →
    (covers at len object ≡ true → read_from (Some (place, changed)) at len ≡ read_from (Some (place, object)) at len) →
    read_from (object_of (set objects place changed) at len) at len ≡ read_from (object_of objects at len) at len
read-set objects place object changed at len is same alike =
    rw (stays, length-set) (of_found (ltb first (length objects)) refl)
  where
    first : ℕ
    first = position_or_len (covers at len) objects

    stays : position_or_len (covers at len) (set objects place changed) ≡ first
    stays = position_or_len-set (covers at len) objects place changed object
        (same ∙ ap (covers at len) (sym (get_or_from_slice_get objects place object object is)))

    of_place : (here : Bool) → eqb first place ≡ here → first < length objects →
        read_from (with_place first (slice_get (set objects place changed) first)) at len
        ≡ read_from (with_place first (slice_get objects first)) at len
    of_place true test within =
        let here = eqb-true first place test in
        let own : slice_get (set objects place changed) first ≡ Some changed = rw here (slice_get-own objects place changed object is) in
        let old : slice_get objects first ≡ Some object = rw here is in
        let covered : covers at len object ≡ true =
        ap (covers at len) (sym (get_or_from_slice_get objects first object object old))
        ∙ passes_at_first (covers at len) objects object within in
        rw (own, old) (alike covered)
    of_place false test within =
        ap (λ found. read_from (with_place first found) at len) (slice_get-other objects place first changed (eqb-false first place test))

    of_found : (found : Bool) → ltb first (length objects) ≡ found →
        read_from (object_at (set objects place changed) (cond found (Some first) None)) at len
        ≡ read_from (object_at objects (cond found (Some first) None)) at len
    of_found true within = of_place (eqb first place) refl (ltb-true first (length objects) within)
    of_found false within = refl

-- two ranges of an object that have no byte in common
kept-within : (object : Object) (at len number other count place : ℕ) → IsCovered at len object → IsCovered other count object →
    IsApart other count at len →
    read_from (Some (place, with_bytes object at (bytes_of len number))) other count ≡ read_from (Some (place, object)) other count
kept-within object at len number other count place is other_is apart =
    let long = length-bytes_of len number in
    ap (λ bytes. Ok (number_of bytes))
    (kept-overwritten object.bytes (bytes_of len number) (at - object.base) (other - object.base) count (omega (arith, is.low, is.high))
    (λ byte one two three four. apart (byte + object.base)
    (omega (arith, is.low, other_is.low)) (omega (arith, is.low, other_is.low)) (omega (arith, is.low, other_is.low)) (omega (arith, is.low, other_is.low))))

pub other_bytes-kept : StoreKeepsOtherBytes
unfolding read
other_bytes-kept objects after at len number other count stored apart =
    let store = store-of objects after at len number stored in
    let object = store.object in
    let changed = with_bytes object at (bytes_of len number) in
    subst (λ (list : List Object). read_from (object_of list other count) other count ≡ read_from (object_of objects other count) other count)
    store.stores
    (read-set objects store.place object changed other count store.there
    (covers-with_bytes at len number object store.covered other count)
    (λ covered. kept-within object at len number other count store.place store.covered
    (IsCovered-from_test other count object covered) apart))
