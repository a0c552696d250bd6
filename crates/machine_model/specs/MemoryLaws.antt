-- What holds of every store, and of the objects of every run.
use Rattle.std.specs.Prelude.{◌≡◌, ◌≢◌, ℕ, ◌+◌, ◌%◌, ◌^◌, ◌<◌, ◌≤◌, Bool, true, List, All, map, length, slice_get, Some, Ok}
use Rattle.machine_model.specs.declared.state.Object.{Object}
use Rattle.machine_model.specs.declared.state.ObjectKind.{ObjectKind}
use Rattle.machine_model.specs.declared.state.State.{State}
use Rattle.machine_model.specs.Memory.{covers, read, without, written}
use Rattle.machine_model.specs.Moment.{Moment, moments_of}
use Rattle.machine_model.specs.Start.{object_of_global}
use Rattle.machine_model.specs.System.{machine_of}
use Rattle.machine_model.specs.Setting.{Setting}
use Rattle.machine_model.specs.Turn.{turn}

-- an object, but for what its bytes are
pub record Extent : Type 0 where
  pub base : ℕ
  pub size : ℕ
  pub maker : ℕ
  pub kind : ObjectKind
  pub live : Bool
  pub count : ℕ

abbrev pub extent_of : Object → Extent
extent_of object = record {
  base = object.base;
  size = object.size;
  maker = object.maker;
  kind = object.kind;
  live = object.live;
  count = length object.bytes;
}

-- no byte is in both ranges, of which each is an address and a length
abbrev pub IsApart : ℕ → ℕ → ℕ → ℕ → Type 0
IsApart at len other count =
    (byte : ℕ) → at ≤ byte → byte < at + len → other ≤ byte → byte < other + count → ⊥

-- a load gives the lowest bytes of what was stored in its range
abbrev pub StoredIsLoaded : Type 0
StoredIsLoaded =
    (objects after : List Object) (at len number : ℕ) → written objects at len number ≡ Ok after →
    read after at len ≡ Ok (number % 256 ^ len)

-- a store makes, moves and ends no object
abbrev pub StoreKeepsExtents : Type 0
StoreKeepsExtents =
    (objects after : List Object) (at len number : ℕ) → written objects at len number ≡ Ok after →
    map extent_of after ≡ map extent_of objects

-- a load from a range that has no byte in common with a store's gives what it gave before
abbrev pub StoreKeepsOtherBytes : Type 0
StoreKeepsOtherBytes =
    (objects after : List Object) (at len number other count : ℕ) → written objects at len number ≡ Ok after →
    IsApart other count at len → read after other count ≡ read objects other count

-- no byte is in two live objects
abbrev pub AreApart : List Object → Type 0
AreApart objects =
    (one two : ℕ) (object other : Object) → one ≢ two →
    slice_get objects one ≡ Some object → slice_get objects two ≡ Some other →
    object.live ≡ true → other.live ≡ true →
    IsApart object.base (length object.bytes) other.base (length other.bytes)

-- then at most one object has a range, unless the range has no byte
abbrev pub OneHasRange : Type 0
OneHasRange =
    (objects : List Object) (at len one two : ℕ) (object other : Object) → AreApart objects → 0 < len →
    slice_get objects one ≡ Some object → covers at len object ≡ true →
    slice_get objects two ≡ Some other → covers at len other ≡ true → one ≡ two

abbrev pub StoreKeepsApart : Type 0
StoreKeepsApart =
    (objects after : List Object) (at len number : ℕ) → written objects at len number ≡ Ok after →
    AreApart objects → AreApart after

abbrev pub DeathKeepsApart : Type 0
DeathKeepsApart = (bases : List ℕ) (objects : List Object) → AreApart objects → AreApart (without bases objects)

-- a turn, also one that traps, is cut or ends the process
abbrev pub TurnKeepsApart : Type 0
TurnKeepsApart =
    (setting : Setting) (state : State) (number left : ℕ) →
    AreApart state.objects → AreApart (turn setting state number left).after.objects

-- where the globals are apart, the objects are so at each moment of every run
abbrev pub MomentsAreApart : Type 0
MomentsAreApart =
    (setting : Setting) (listed : List ℕ) (steps : ℕ) → AreApart (map object_of_global setting.code.globals) →
    All (λ (moment : Moment State). AreApart moment.before.state.objects) (moments_of (machine_of setting) listed steps)
