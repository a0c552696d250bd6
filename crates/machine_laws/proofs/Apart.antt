-- Live objects that are apart stay so.
use Rattle.std.proofs.Common.{◌≡◌, ℕ, Bool, true, false, cond, eqb, List, length, Option, Some, None, refl, sym, ap, ◌∙◌, arith}
use Rattle.std.specs.Prelude.{slice_get, ◌==◌}
use Rattle.std.specs.List.{list_any}
use Rattle.std.specs.Option.{option_map}
use Rattle.std.proofs.lemmas.Bool.{eqb-false, eqb-true, false≢true}
use Rattle.std.proofs.lemmas.Option.{slice_get-map}
use Rattle.machine_model.specs.declared.state.Object.{Object}
use Rattle.machine_model.specs.declared.state.State.{State}
use Rattle.machine_model.specs.Memory.{dead, without}
use Rattle.machine_model.specs.System.{machine_of}
use Rattle.machine_model.specs.MemoryLaws.{AreApart, DeathKeepsApart, Extent, MomentsAreApart, OneHasRange, StoreKeepsApart, TurnKeepsApart, extent_of}
use Rattle.machine_laws.proofs.Changes.{turn-keeps}
use Rattle.machine_laws.proofs.Invariants.{moments-hold}
use Rattle.machine_laws.proofs.OtherBytes.{extents-kept}
use Rattle.machine_laws.proofs.Stores.{IsCovered-from_test, is_live-from_test}

-- a live object at this place has the same range
record WasLive (objects : List Object) (place : ℕ) (object : Object) : Type 0 where
  old : Object
  there : slice_get objects place ≡ Some old
  live : old.live ≡ true
  base : old.base ≡ object.base
  count : length old.bytes ≡ length object.bytes

apart-from_old : (objects after : List Object) →
    ((place : ℕ) (object : Object) → slice_get after place ≡ Some object → object.live ≡ true → WasLive objects place object) →
    AreApart objects → AreApart after
apart-from_old objects after was apart = λ one two object other differ there its live its_live byte low high from to.
    let first = was one object there live in
    let second = was two other its its_live in
    apart one two first.old second.old differ first.there second.there first.live second.live byte
    (omega (arith, first.base)) (omega (arith, first.base, first.count))
    (omega (arith, second.base)) (omega (arith, second.base, second.count))

same_extent : (objects : List Object) (place : ℕ) (object : Object) (old : Option Object) → slice_get objects place ≡ old →
    option_map extent_of old ≡ Some (extent_of object) → object.live ≡ true → WasLive objects place object
same_extent objects place object None is same live = absurd (let h : ⊥ = cc in h)
same_extent objects place object (Some old) is same live =
    let extents : extent_of old ≡ extent_of object = cc in
    record {
      old = old;
      there = is;
      live = ap (λ (extent : Extent). extent.live) extents ∙ live;
      base = ap (λ (extent : Extent). extent.base) extents;
      count = ap (λ (extent : Extent). extent.count) extents;
    }

pub store-keeps_apart : StoreKeepsApart
store-keeps_apart objects after at len number stored =
    apart-from_old objects after (λ place object there live.
    same_extent objects place object (slice_get objects place) refl
    (sym (slice_get-map extent_of objects place)
    ∙ ap (λ extents. slice_get extents place) (sym (extents-kept objects after at len number stored))
    ∙ slice_get-map extent_of after place ∙ ap (option_map extent_of) there)
    live)

pub death-keeps_apart : DeathKeepsApart
death-keeps_apart bases objects =
    apart-from_old objects (without bases objects) (λ place object there live.
    was_alive place object (slice_get objects place) refl (sym (slice_get-map (dead bases) objects place) ∙ there) live)
  where
    was_it : (place : ℕ) (object old : Object) (dies : Bool) → slice_get objects place ≡ Some old →
        cond dies (record old { live = false }) old ≡ object →
        object.live ≡ true → WasLive objects place object
    was_it place object old true is same live = absurd (false≢true (ap (λ (o : Object). o.live) same ∙ live))
    was_it place object old false is same live = record {
      old = old;
      there = is;
      live = ap (λ (o : Object). o.live) same ∙ live;
      base = ap (λ (o : Object). o.base) same;
      count = ap (λ (o : Object). length o.bytes) same;
    }

    was_alive : (place : ℕ) (object : Object) (old : Option Object) → slice_get objects place ≡ old →
        option_map (dead bases) old ≡ Some object → object.live ≡ true → WasLive objects place object
    was_alive place object None is same live = absurd (let h : ⊥ = cc in h)
    was_alive place object (Some old) is same live =
        was_it place object old (list_any (λ base. base == old.base) bases) is (let dies : dead bases old ≡ object = cc in dies) live

pub one-has_range : OneHasRange
one-has_range objects at len one two object other apart some there covered its its_covered = go (eqb one two) refl
  where
    go : (same : Bool) → eqb one two ≡ same → one ≡ two
    go true test = eqb-true one two test
    go false test =
        let first = IsCovered-from_test at len object covered in
        let second = IsCovered-from_test at len other its_covered in
        absurd (apart one two object other (eqb-false one two test) there its
        (is_live-from_test at len object covered) (is_live-from_test at len other its_covered) at
        (omega (arith, first.low)) (omega (arith, first.high)) (omega (arith, second.low)) (omega (arith, second.high)))

pub turn-keeps_apart : TurnKeepsApart
turn-keeps_apart setting state number left apart =
    turn-keeps setting number (λ threads objects. AreApart objects)
    (record {
      own = λ threads objects thread apart. apart;
      make = λ threads objects function arguments apart. apart;
      join = λ threads objects place thread is apart. apart;
      store = λ threads. store-keeps_apart;
      death = λ threads. death-keeps_apart;
    })
    state left apart

pub moments-are_apart : MomentsAreApart
moments-are_apart setting listed steps apart =
    moments-hold (machine_of setting) (λ (state : State). AreApart state.objects)
    (λ state number left apart going. turn-keeps_apart setting state number left apart) listed steps apart
