-- Members of lists that were made from other lists.
use Rattle.std.proofs.Common.{◌≡◌, zero, suc, Bool, true, false, cond, List, [], ◌∷◌, filter, map, Option, Some, None, refl, ap, ◌∙◌, arith}
use Rattle.std.specs.Prelude.{Contains}
use Rattle.std.specs.List.{cons_option, filter_map}
use Rattle.std.proofs.lemmas.Bool.{false≢true}
use Rattle.std.proofs.lemmas.List.Elements.{All-contains, All-contains_itself, All-filter}

pub Contains-first : {A : Type 0} (first : A) (rest : List A) → Contains (first ∷ rest) first
Contains-first first rest = (0, omega arith, refl)

-- one more member in front
pub Contains-later : {A : Type 0} (first : A) (rest : List A) (one : A) → Contains rest one → Contains (first ∷ rest) one
Contains-later first rest one (place, within, is) = (suc place, omega arith, is)

-- what a filter keeps was there
pub Contains-kept : {A : Type 0} (test : A → Bool) (list : List A) (one : A) → Contains (filter test list) one →
    Contains list one
Contains-kept test list one =
    All-contains (Contains list) (filter test list) one (All-filter test (Contains list) list (All-contains_itself list))

-- what passes is kept
pub Contains-filtered : {A : Type 0} (test : A → Bool) (list : List A) (one : A) → Contains list one →
    test one ≡ true → Contains (filter test list) one
Contains-filtered test [] one among passes = absurd (omega (arith, among.1))
Contains-filtered test (first ∷ rest) one (zero, within, is) passes =
    go (test first) (ap test is ∙ passes)
  where
    go : (kept : Bool) → kept ≡ true → Contains (cond kept (first ∷ filter test rest) (filter test rest)) one
    go true kept = (0, omega arith, is)
    go false kept = absurd (false≢true kept)
Contains-filtered test (first ∷ rest) one (suc place, within, is) passes =
    go (test first) (Contains-filtered test rest one (place, omega arith, is) passes)
  where
    go : (kept : Bool) → Contains (filter test rest) one →
        Contains (cond kept (first ∷ filter test rest) (filter test rest)) one
    go true later = Contains-later first (filter test rest) one later
    go false later = later

pub Contains-mapped : {A B : Type 0} (make : A → B) (list : List A) (one : A) → Contains list one →
    Contains (map make list) (make one)
Contains-mapped make [] one among = absurd (omega (arith, among.1))
Contains-mapped make (first ∷ rest) one (zero, within, is) = (0, omega arith, ap make is)
Contains-mapped make (first ∷ rest) one (suc place, within, is) =
    Contains-later (make first) (map make rest) (make one) (Contains-mapped make rest one (place, omega arith, is))

-- the member that a value was made from
abbrev pub Source : {A B : Type 0} → (A → B) → List A → B → Type 0
Source {A} make list value = (one : A) × Contains list one × (make one ≡ value)

Source-later : {A B : Type 0} (make : A → B) (first : A) (rest : List A) (value : B) → Source make rest value →
    Source make (first ∷ rest) value
Source-later make first rest value (one, among, is) = (one, Contains-later first rest one among, is)

pub map-source : {A B : Type 0} (make : A → B) (list : List A) (value : B) → Contains (map make list) value →
    Source make list value
map-source make [] value among = absurd (omega (arith, among.1))
map-source make (first ∷ rest) value (zero, within, is) = (first, Contains-first first rest, is)
map-source make (first ∷ rest) value (suc place, within, is) =
    Source-later make first rest value (map-source make rest value (place, omega arith, is))

pub filter_map-sound : {A B : Type 0} (answer : A → Option B) (list : List A) (value : B) →
    Contains (filter_map answer list) value → Source answer list (Some value)
filter_map-sound answer [] value among = absurd (omega (arith, among.1))
filter_map-sound {A} {B} answer (first ∷ rest) value among =
    go (answer first) refl among (filter_map-sound answer rest value)
  where
    go : (here : Option B) → answer first ≡ here → Contains (cons_option here (filter_map answer rest)) value →
        (Contains (filter_map answer rest) value → Source answer rest (Some value)) →
        Source answer (first ∷ rest) (Some value)
    go None here among later = Source-later answer first rest (Some value) (later among)
    go (Some found) here (zero, within, is) later = (first, Contains-first first rest, here ∙ ap Some is)
    go (Some found) here (suc place, within, is) later =
        Source-later answer first rest (Some value) (later (place, omega arith, is))

pub filter_map-complete : {A B : Type 0} (answer : A → Option B) (list : List A) (one : A) (value : B) →
    Contains list one → answer one ≡ Some value → Contains (filter_map answer list) value
filter_map-complete answer [] one value among some = absurd (omega (arith, among.1))
filter_map-complete answer (first ∷ rest) one value (zero, within, is) some =
    rw (ap answer is ∙ some) (Contains-first value (filter_map answer rest))
filter_map-complete {A} {B} answer (first ∷ rest) one value (suc place, within, is) some =
    go (answer first) (filter_map-complete answer rest one value (place, omega arith, is) some)
  where
    go : (here : Option B) → Contains (filter_map answer rest) value →
        Contains (cons_option here (filter_map answer rest)) value
    go None later = later
    go (Some found) later = Contains-later found (filter_map answer rest) value later
