-- A load from a range gives what was stored there.
use Rattle.std.proofs.Common.{◌≡◌, ℕ, ◌-◌, ◌%◌, ◌^◌, ◌<◌, List, length, set, take, drop, Some, Ok, refl, sym, ap, ◌∙◌, subst, arith, length-set, get_or-set_same}
use Rattle.std.specs.Prelude.{slice_get}
use Rattle.std.specs.List.{position_or_len}
use Rattle.std.proofs.lemmas.Bool.{lt-ltb}
use Rattle.std.proofs.lemmas.List.Folds.{position_or_len-set}
use Rattle.std.proofs.lemmas.Option.{get_or_from_slice_get, slice_get-get_or}
use Rattle.machine_model.specs.declared.state.Object.{Object}
use Rattle.machine_model.specs.Memory.{bytes_of, covers, number_of, object_of, overwritten, read, read_from, with_bytes}
use Rattle.machine_model.specs.MemoryLaws.{StoredIsLoaded}
use Rattle.machine_laws.proofs.Bytes.{length-bytes_of, number_of-bytes_of, taken-overwritten}
use Rattle.machine_laws.proofs.Stores.{IsCovered, covers-with_bytes, store-of}

-- the object that was written to is found again
object_of-set : (objects : List Object) (at len place : ℕ) (object changed : Object) →
    place < length objects → slice_get objects place ≡ Some object →
    position_or_len (covers at len) objects ≡ place → covers at len changed ≡ covers at len object →
    object_of (set objects place changed) at len ≡ Some (place, changed)
object_of-set objects at len place object changed within is first same =
    let stays : position_or_len (covers at len) (set objects place changed) ≡ place =
    position_or_len-set (covers at len) objects place changed object
    (same ∙ ap (covers at len) (sym (get_or_from_slice_get objects place object object is))) ∙ first in
    let long : place < length (set objects place changed) = rw length-set within in
    let there : slice_get (set objects place changed) place ≡ Some changed =
    slice_get-get_or (set objects place changed) place changed long ∙ ap Some (get_or-set_same objects place changed changed within) in
    rw (stays, lt-ltb place (length (set objects place changed)) long, there) refl

load-after : (object : Object) (at len number place : ℕ) → IsCovered at len object →
    read_from (Some (place, with_bytes object at (bytes_of len number))) at len ≡ Ok (number % 256 ^ len)
load-after object at len number place is =
    let others = bytes_of len number in
    let long = length-bytes_of len number in
    let bytes = taken-overwritten object.bytes others (at - object.base) (omega (arith, is.low, is.high)) in
    ap Ok (ap (λ n. number_of (take n (drop (at - object.base) (overwritten object.bytes (at - object.base) others)))) (sym long)
    ∙ ap number_of bytes ∙ number_of-bytes_of len number)

pub stored-loads : StoredIsLoaded
unfolding read
stored-loads objects after at len number stored =
    let store = store-of objects after at len number stored in
    let changed = with_bytes store.object at (bytes_of len number) in
    let found = object_of-set objects at len store.place store.object changed store.within store.there store.first
    (covers-with_bytes at len number store.object store.covered at len) in
    let Loads : List Object → Type 0 = λ list. read_from (object_of list at len) at len ≡ Ok (number % 256 ^ len) in
    subst Loads store.stores (rw found (load-after store.object at len number store.place store.covered))
