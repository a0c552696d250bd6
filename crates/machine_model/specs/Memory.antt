-- Memory as a list of objects: which ranges of bytes are valid, what they hold, and what a write leaves.
use Rattle.std.specs.Prelude.{ℕ, zero, suc, ◌+◌, ◌-◌, ◌*◌, ◌/◌, ◌%◌, Bool, true, false, ◌&&◌, ◌==◌, nat_le, List, [], ◌∷◌, ◌++◌, map, length, take, drop, position, slice_get, slice_set, Option, Some, None, Result, Ok, Err, if◌then◌else◌}
use Rattle.std.specs.List.{list_any}
use Rattle.machine_model.specs.declared.state.Object.{Object}
use Rattle.machine_model.specs.declared.state.ObjectKind.{ObjectKind}
use Rattle.machine_model.specs.declared.state.ObjectKind.TheVariants.{Global, Constant, Stack, Heap}
use Rattle.run_types.specs.declared.trap.Trap.{Trap}
use Rattle.run_types.specs.declared.trap.Trap.TheVariants.{BadAddress, ReadOnly}

-- the number that bytes spell, the least first
abbrev pub number_of : List ℕ → ℕ
number_of [] = 0
number_of (byte ∷ bytes) = byte + 256 * number_of bytes

-- the lowest bytes of a number, the least first
unfoldable pub bytes_of : ℕ → ℕ → List ℕ
bytes_of zero number = []
bytes_of (suc len) number = number % 256 ∷ bytes_of len (number / 256)

-- the bytes with others in place of those from `at` on
abbrev pub overwritten : List ℕ → ℕ → List ℕ → List ℕ
overwritten bytes at others = take at bytes ++ others ++ drop (at + length others) bytes

-- the object is live and has all of the range
abbrev pub covers : ℕ → ℕ → Object → Bool
covers at len object =
    object.live && nat_le object.base at && nat_le (at + len) (object.base + length object.bytes)

-- an object with its place in the list
abbrev pub with_place : ℕ → Option Object → Option (ℕ × Object)
with_place place None = None
with_place place (Some object) = Some (place, object)

abbrev pub object_at : List Object → Option ℕ → Option (ℕ × Object)
object_at objects None = None
object_at objects (Some place) = with_place place (slice_get objects place)

-- the object that has the range, with its place; live objects don't overlap
abbrev pub object_of : List Object → ℕ → ℕ → Option (ℕ × Object)
object_of objects at len = object_at objects (position (covers at len) objects)

abbrev pub read_from : Option (ℕ × Object) → ℕ → ℕ → Result ℕ Trap
read_from None at len = Err BadAddress
read_from (Some found) at len = Ok (number_of (take len (drop (at - found.1.base) found.1.bytes)))

-- the number that a valid range of bytes holds
unfoldable pub read : List Object → ℕ → ℕ → Result ℕ Trap
read objects at len = read_from (object_of objects at len) at len

abbrev pub is_constant : ObjectKind → Bool
is_constant Constant = true
is_constant Global = false
is_constant Stack = false
is_constant Heap = false

abbrev pub with_bytes : Object → ℕ → List ℕ → Object
with_bytes object at others =
    record object { bytes = overwritten object.bytes (at - object.base) others }

abbrev pub write_to : List Object → Option (ℕ × Object) → ℕ → List ℕ → Result (List Object) Trap
write_to objects None at others = Err BadAddress
write_to objects (Some found) at others =
    if is_constant found.1.kind then Err ReadOnly
    else Ok (slice_set objects found.0 (with_bytes found.1 at others))

-- the objects after the lowest bytes of a number were written to a valid range
unfoldable pub written : List Object → ℕ → ℕ → ℕ → Result (List Object) Trap
written objects at len number = write_to objects (object_of objects at len) at (bytes_of len number)

-- the objects after those with these bases died
abbrev pub dead : List ℕ → Object → Object
dead bases object = if list_any (λ base. base == object.base) bases then record object { live = false } else object

abbrev pub without : List ℕ → List Object → List Object
without bases objects = map (dead bases) objects
