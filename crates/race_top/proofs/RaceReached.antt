-- A race of two recorded turns is of two threads, and the recorded run reaches it.
use Rattle.std.proofs.Common.{◌≡◌, ◌≢◌, ◌==◌, ℕ, zero, suc, ◌+◌, ◌-◌, ◌<◌, Bool, true, false, cond, eqb, ltb, List, [], ◌∷◌, drop, length, take, Option, Some, None, Ok, Err, refl, sym, ap, ◌∙◌, arith}
use Rattle.std.specs.Prelude.{slice_get, ◌&&◌, ◌||◌, filter}
use Rattle.std.specs.List.{list_any}
use Rattle.std.proofs.lemmas.Bool.{and_from, and_parts, eq-eqb, eqb-false, ltb-true, ne_eqb}
use Rattle.std.proofs.lemmas.Map.Keys.{any_passes_from_place}
use Rattle.ir_types.specs.declared.instruction.Site.{Site}
use Rattle.ir_types.specs.declared.«module».Module.{Module}
use Rattle.machine_model.specs.declared.access.Access.{Access}
use Rattle.run_types.specs.declared.case.Case.{Case}
use Rattle.run_types.specs.declared.race.Race.{Race}
use Rattle.machine_model.specs.Access.{conflicts, overlaps}
use Rattle.run_types.specs.Site.{is_site}
use Rattle.machine_model.specs.Moment.{Moment, access_at, from_turn}
use Rattle.machine_model.specs.Primary.{setting_of}
use Rattle.machine_model.specs.Reach.{Reaches, does_second, primary_moments, reaches_from}
use Rattle.machine_model.specs.System.{System, machine_of}
use Rattle.race_top.specs.CheckRace.{RaceOf, is_range, race_at, race_with, turns_of}
use Rattle.race_top.specs.declared.trace_replay.check.RaceError.{RaceError}
use Rattle.race_top.specs.declared.trace_replay.check.RaceError.TheVariants.{NoConflict, Range, SameThread}
use Rattle.race_top.specs.CheckRaceLaws.{RecordedRunReaches, ThreadsDiffer}
use Rattle.race_top.proofs.Moments.{slice_get-drop}

-- the race of two turns that do these accesses
abbrev race_is : {S : Type 0} → ℕ → ℕ → ℕ → Moment S → Moment S → Access → Access → Race
race_is first second count one other access again = record {
  first = first;
  second = second;
  t1 = one.thread;
  v1 = count;
  s1 = access.site;
  t2 = other.thread;
  s2 = again.site;
}

-- what stands behind a race of these moments
record Found {S : Type 0} (system : System S) (moments : List (Moment S)) (race : Race) : Type 0 where
  first : ℕ
  second : ℕ
  one : Moment S
  other : Moment S
  access : Access
  again : Access
  low : 0 < first
  above : first < second
  is_one : slice_get moments (first - 1) ≡ Some one
  is_other : slice_get moments (second - 1) ≡ Some other
  apart : one.thread ≢ other.thread
  does_one : access_at system one ≡ Some access
  does_other : access_at system other ≡ Some again
  conflict : conflicts access again ≡ true
  is : race ≡ race_is first second (turns_of one.thread (take first moments)) one other access again

ok-if : (test : Bool) (answer race : Race) (error : RaceError) → cond test (Ok answer) (Err error) ≡ Ok race →
    (test ≡ true) × (race ≡ answer)
ok-if true answer race error is = (refl, cc)
ok-if false answer race error is = absurd (let h : ⊥ = cc in h)

module _ {S : Type 0} (system : System S) (moments : List (Moment S)) (first second : ℕ) (race : Race) (low : 0 < first) (above : first < second) where
  found-with : (one other : Moment S) (access again : Option Access) → slice_get moments (first - 1) ≡ Some one →
      slice_get moments (second - 1) ≡ Some other → one.thread ≢ other.thread →
      access_at system one ≡ access → access_at system other ≡ again →
      race_with (take first moments) first second one other access again ≡ Ok race → Found system moments race
  found-with one other (Some access) (Some again) is_one is_other apart does_one does_other is =
      let parts = ok-if (conflicts access again)
      (race_is first second (turns_of one.thread (take first moments)) one other access again) race NoConflict is in
      record {
        first = first;
        second = second;
        one = one;
        other = other;
        access = access;
        again = again;
        low = low;
        above = above;
        is_one = is_one;
        is_other = is_other;
        apart = apart;
        does_one = does_one;
        does_other = does_other;
        conflict = parts.0;
        is = parts.1;
      }
  found-with one other (Some access) None is_one is_other apart does_one does_other is = absurd (let h : ⊥ = cc in h)
  found-with one other None again is_one is_other apart does_one does_other is = absurd (let h : ⊥ = cc in h)

  found-apart : (one other : Moment S) (same : Bool) → slice_get moments (first - 1) ≡ Some one →
      slice_get moments (second - 1) ≡ Some other → eqb one.thread other.thread ≡ same →
      cond same (Err SameThread)
      (race_with (take first moments) first second one other (access_at system one) (access_at system other)) ≡ Ok race →
      Found system moments race
  found-apart one other true is_one is_other same is = absurd (let h : ⊥ = cc in h)
  found-apart one other false is_one is_other same is =
      found-with one other (access_at system one) (access_at system other) is_one is_other
      (eqb-false one.thread other.thread same) refl refl is

  found-at : (one other : Option (Moment S)) → slice_get moments (first - 1) ≡ one →
      slice_get moments (second - 1) ≡ other →
      race_at system moments first second one other ≡ Ok race → Found system moments race
  found-at (Some one) (Some other) is_one is_other is =
      found-apart one other (eqb one.thread other.thread) is_one is_other refl is
  found-at (Some one) None is_one is_other is = absurd (let h : ⊥ = cc in h)
  found-at None other is_one is_other is = absurd (let h : ⊥ = cc in h)

found-if : {S : Type 0} (system : System S) (moments : List (Moment S)) (first second count : ℕ) (race : Race)
    (within : Bool) →
    is_range first second count ≡ within →
    cond within (race_at system moments first second (slice_get moments (first - 1)) (slice_get moments (second - 1))) (Err Range)
    ≡ Ok race → Found system moments race
found-if system moments first second count race true within is =
    let parts = and_parts (ltb 0 first && ltb first second) _ within in
    let order = and_parts (ltb 0 first) (ltb first second) parts.0 in
    found-at system moments first second race (ltb-true 0 first order.0) (ltb-true first second order.1)
    (slice_get moments (first - 1)) (slice_get moments (second - 1)) refl refl is
found-if system moments first second count race false within is = absurd (let h : ⊥ = cc in h)

found : (code : Module) (case : Case) (pair : ℕ × ℕ) (race : Race) → RaceOf code case pair ≡ Ok race →
    Found (machine_of (setting_of code case case.input)) (primary_moments code case case.input) race
unfolding RaceOf
found code case pair race is =
    found-if (machine_of (setting_of code case case.input)) (primary_moments code case case.input) pair.0 pair.1
    (length case.turns) race (is_range pair.0 pair.1 (length case.turns)) refl is

pub threads-differ : ThreadsDiffer
threads-differ code case pair race is =
    let by = found code case pair race is in
    rw by.is by.apart

-- a thread's turns up to one of its own are some
some-turns : {S : Type 0} (thread place : ℕ) (moments : List (Moment S)) (one : Moment S) →
    slice_get moments place ≡ Some one →
    one.thread ≡ thread → 0 < turns_of thread (take (suc place) moments)
some-turns thread place [] one is own = absurd (let h : ⊥ = cc in h)
some-turns thread zero (moment ∷ later) one is own =
    let same : moment ≡ one = cc in
    let here : eqb moment.thread thread ≡ true = eq-eqb moment.thread thread (ap (λ it. it.thread) same ∙ own) in
    rw here (omega arith)
some-turns thread (suc place) (moment ∷ later) one is own =
    more (eqb moment.thread thread) (some-turns thread place later one is own)
  where
    more : (here : Bool) → 0 < turns_of thread (take (suc place) later) →
        0 < length (cond here (moment ∷ filter (λ it. it.thread == thread) (take (suc place) later)) (filter (λ it. it.thread == thread) (take (suc place) later)))
    more true some = omega arith
    more false some = some

-- a turn of the thread that is not the last of these, or one of another thread
past-turn : {S : Type 0} (thread : ℕ) (moment : Moment S) (later own left : List (Moment S)) (here : Bool) →
    0 < length own →
    from_turn thread (length own) later ≡ left →
    cond here
    (cond (eqb (length (cond here (moment ∷ own) own)) 1) (moment ∷ later)
    (from_turn thread (length (cond here (moment ∷ own) own) - 1) later))
    (from_turn thread (length (cond here (moment ∷ own) own)) later)
    ≡ left
past-turn thread moment later own left true some on =
    let more : eqb (suc (length own)) 1 ≡ false = ne_eqb (suc (length own)) 1 (λ same. omega arith) in
    let less : suc (length own) - 1 ≡ length own = omega arith in
    rw (more, less) on
past-turn thread moment later own left false some on = on

-- the moments from that turn of the thread on are those from the place of the turn on
from-turn : {S : Type 0} (thread place : ℕ) (moments : List (Moment S)) (one : Moment S) →
    slice_get moments place ≡ Some one →
    one.thread ≡ thread → from_turn thread (turns_of thread (take (suc place) moments)) moments ≡ drop place moments
from-turn thread place [] one is own = absurd (let h : ⊥ = cc in h)
from-turn thread zero (moment ∷ later) one is own =
    let same : moment ≡ one = cc in
    let here : eqb moment.thread thread ≡ true = eq-eqb moment.thread thread (ap (λ it. it.thread) same ∙ own) in
    rw here refl
from-turn thread (suc place) (moment ∷ later) one is own =
    past-turn thread moment later (filter (λ it. it.thread == thread) (take (suc place) later)) (drop place later)
    (eqb moment.thread thread) (some-turns thread place later one is own) (from-turn thread place later one is own)

drop-here : {X : Type 0} (xs : List X) (i : ℕ) (x : X) → slice_get xs i ≡ Some x → drop i xs ≡ x ∷ drop (suc i) xs
drop-here [] i x is = absurd (let h : ⊥ = cc in h)
drop-here (first ∷ xs) zero x is = let same : first ≡ x = cc in ap (λ it. it ∷ xs) same
drop-here (first ∷ xs) (suc i) x is = drop-here xs i x is

same-site : (site : Site) → is_site site site ≡ true
same-site site =
    and_from (eqb site.function site.function) (eqb site.inst site.inst) (eq-eqb site.function site.function refl)
    (eq-eqb site.inst site.inst refl)

-- overlapping is mutual
other-overlaps : (one other : Access) → conflicts one other ≡ true → overlaps other one ≡ true
other-overlaps one other is =
    let over = and_parts (overlaps one other) (one.store || other.store) is in
    let parts = and_parts (ltb one.at (other.at + other.len)) (ltb other.at (one.at + one.len)) over.0 in
    and_from (ltb other.at (one.at + one.len)) (ltb one.at (other.at + other.len)) parts.1 parts.0

does-second : {S : Type 0} (system : System S) (moments : List (Moment S)) (race : Race)
    (by : Found system moments race) →
    does_second system race by.access by.other ≡ true
does-second system moments race by =
    rw by.does_other
    (and_from (eqb by.other.thread race.t2) (is_site by.again.site race.s2 && overlaps by.again by.access)
    (eq-eqb by.other.thread race.t2 (sym (ap (λ it. it.t2) by.is)))
    (and_from (is_site by.again.site race.s2) (overlaps by.again by.access)
    (ap (λ it. is_site by.again.site it.s2) by.is ∙ same-site by.again.site)
    (other-overlaps by.access by.again by.conflict)))

reached : {S : Type 0} (system : System S) (moments : List (Moment S)) (race : Race) → Found system moments race →
    reaches_from system race (from_turn race.t1 race.v1 moments) ≡ true
reached system moments race by =
    let place = by.first - 1 in
    let next : suc place ≡ by.first = omega (arith, by.low) in
    let count : race.v1 ≡ turns_of by.one.thread (take (suc place) moments) =
    ap (λ it. it.v1) by.is ∙ ap (λ number. turns_of by.one.thread (take number moments)) (sym next) in
    let t1 : race.t1 ≡ by.one.thread = ap (λ it. it.t1) by.is in
    let later = drop (suc place) moments in
    let from : from_turn race.t1 race.v1 moments ≡ by.one ∷ later =
    ap (λ thread. from_turn thread race.v1 moments) t1
    ∙ ap (λ number. from_turn by.one.thread number moments) count
    ∙ from-turn by.one.thread place moments by.one by.is_one refl
    ∙ drop-here moments place by.one by.is_one in
    let after = by.second - by.first - 1 in
    let same_place : suc place + after ≡ by.second - 1 = omega (arith, by.low, by.above) in
    let is_later : slice_get later after ≡ Some by.other =
    slice_get-drop moments (suc place) after ∙ ap (slice_get moments) same_place ∙ by.is_other in
    let does : does_second system race by.access by.other ≡ true = does-second system moments race by in
    rw (from, by.does_one)
    (and_from (is_site by.access.site race.s1) (list_any (does_second system race by.access) later)
    (ap (λ it. is_site by.access.site it.s1) by.is ∙ same-site by.access.site)
    (any_passes_from_place (does_second system race by.access) later after by.other is_later does))

pub recorded-run-reaches : RecordedRunReaches
unfolding Reaches
recorded-run-reaches code case pair race is =
    reached (machine_of (setting_of code case case.input)) (primary_moments code case case.input) race
    (found code case pair race is)
