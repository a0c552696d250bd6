-- A store writes within one object, the first that has its range.
use Rattle.std.proofs.Common.{◌≡◌, ℕ, ◌+◌, ◌-◌, ◌<◌, ◌≤◌, Bool, true, false, cond, leb, ltb, List, length, get_or, set, Option, Some, None, Ok, Err, refl, sym, ap, ◌∙◌, arith}
use Rattle.std.specs.Prelude.{slice_get, ◌&&◌}
use Rattle.std.specs.List.{position_or_len}
use Rattle.std.proofs.lemmas.Bool.{leb-true, ltb-true, false≢true}
use Rattle.std.proofs.lemmas.List.Sums.{passes_at_first}
use Rattle.std.proofs.lemmas.Option.{get_or_from_slice_get}
use Rattle.machine_model.specs.declared.state.Object.{Object}
use Rattle.run_types.specs.declared.trap.Trap.TheVariants.{ReadOnly}
use Rattle.machine_model.specs.Memory.{bytes_of, covers, is_constant, object_at, with_bytes, with_place, write_to, written}
use Rattle.machine_laws.proofs.Bytes.{length-bytes_of, length-overwritten}

-- what an object that covers a range is, in numbers
pub record IsCovered (at len : ℕ) (object : Object) : Type 0 where
  pub low : object.base ≤ at
  pub high : at + len ≤ object.base + length object.bytes

both : (one other : Bool) → (one && other) ≡ true → (one ≡ true) × (other ≡ true)
both true true h = (refl, refl)
both true false h = absurd (false≢true h)
both false true h = absurd (false≢true h)
both false false h = absurd (false≢true h)

pub IsCovered-from_test : (at len : ℕ) (object : Object) → covers at len object ≡ true → IsCovered at len object
IsCovered-from_test at len object h =
    let parts = both (object.live && leb object.base at) (leb (at + len) (object.base + length object.bytes)) h in
    let front = both object.live (leb object.base at) parts.0 in
    record {
      low = leb-true object.base at front.1;
      high = leb-true (at + len) (object.base + length object.bytes) parts.1;
    }

pub is_live-from_test : (at len : ℕ) (object : Object) → covers at len object ≡ true → object.live ≡ true
is_live-from_test at len object h =
    (both object.live (leb object.base at)
    (both (object.live && leb object.base at) (leb (at + len) (object.base + length object.bytes)) h).0).0

-- writing within an object leaves it as long as it was
pub length-with_bytes : (at len number : ℕ) (object : Object) → IsCovered at len object →
    length (with_bytes object at (bytes_of len number)).bytes ≡ length object.bytes
length-with_bytes at len number object is =
    let long = length-bytes_of len number in
    length-overwritten object.bytes (bytes_of len number) (at - object.base) (omega (arith, is.low, is.high))

-- and covering what it covered
pub covers-with_bytes : (at len number : ℕ) (object : Object) → IsCovered at len object → (other count : ℕ) →
    covers other count (with_bytes object at (bytes_of len number)) ≡ covers other count object
covers-with_bytes at len number object is other count =
    ap (λ bytes. object.live && leb object.base other && leb (other + count) (object.base + bytes))
    (length-with_bytes at len number object is)

pub record Store (objects after : List Object) (at len number : ℕ) : Type 0 where
  pub place : ℕ
  pub object : Object
  pub within : place < length objects
  pub there : slice_get objects place ≡ Some object
  pub first : position_or_len (covers at len) objects ≡ place
  pub covered : IsCovered at len object
  pub stores : set objects place (with_bytes object at (bytes_of len number)) ≡ after

store-at : (objects after : List Object) (at len number place : ℕ) (object : Object) (constant : Bool) →
    place < length objects → slice_get objects place ≡ Some object → position_or_len (covers at len) objects ≡ place →
    IsCovered at len object →
    cond constant (Err ReadOnly) (Ok (set objects place (with_bytes object at (bytes_of len number)))) ≡ Ok after →
    Store objects after at len number
store-at objects after at len number place object true within is first covered stored = absurd (let h : ⊥ = cc in h)
store-at objects after at len number place object false within is first covered stored = record {
  place = place;
  object = object;
  within = within;
  there = is;
  first = first;
  covered = covered;
  stores = cc;
}

store-in : (objects after : List Object) (at len number place : ℕ) (object : Option Object) →
    place < length objects → slice_get objects place ≡ object → position_or_len (covers at len) objects ≡ place →
    write_to objects (with_place place object) at (bytes_of len number) ≡ Ok after → Store objects after at len number
store-in objects after at len number place None within is first stored = absurd (let h : ⊥ = cc in h)
store-in objects after at len number place (Some object) within is first stored =
    store-at objects after at len number place object (is_constant object.kind) within is first
    (IsCovered-from_test at len object
    (ap (covers at len) (sym (get_or_from_slice_get objects place object object is))
    ∙ ap (λ k. covers at len (get_or objects k object)) (sym first)
    ∙ passes_at_first (covers at len) objects object (omega arith)))
    stored

store-where : (objects after : List Object) (at len number : ℕ) (found : Bool) →
    ltb (position_or_len (covers at len) objects) (length objects) ≡ found →
    write_to objects (object_at objects (cond found (Some (position_or_len (covers at len) objects)) None)) at (bytes_of len number) ≡ Ok after →
    Store objects after at len number
store-where objects after at len number true within stored =
    let place = position_or_len (covers at len) objects in
    store-in objects after at len number place (slice_get objects place) (ltb-true place (length objects) within) refl refl stored
store-where objects after at len number false within stored = absurd (let h : ⊥ = cc in h)

pub store-of : (objects after : List Object) (at len number : ℕ) → written objects at len number ≡ Ok after →
    Store objects after at len number
unfolding written
store-of objects after at len number stored =
    store-where objects after at len number (ltb (position_or_len (covers at len) objects) (length objects)) refl stored
