-- The first place of a name in a list, and tables that have it.
use Rattle.std.proofs.Common.{eqb, ltb, ◌≤◌, ◌<◌, length-append, ◌≡◌, ℕ, ◌+◌, List, [], ◌∷◌, ◌++◌, ◌∙◌, length, Bool, true, false, Option, Some, None, IfSome, cond, refl, ap, sym, arith, map, position, bytes_eq, if◌then◌else◌, is_some, slice_get, get_or, Bor}
use Rattle.std.proofs.lemmas.Bool.{false≢true}
use Rattle.std.proofs.lemmas.Bool.Decides.{nat_tests}
use Rattle.std.proofs.lemmas.Grind.{common_steps}
use Rattle.std.proofs.lemmas.List.Folds.{position_or_len_push}
use Rattle.std.proofs.lemmas.List.{get_or-map, length-map, map-append}
use Rattle.std.proofs.lemmas.List.Sums.{passes_at_first, position_or_len_is, prefix_len-le-length}
use Rattle.std.proofs.lemmas.Option.{slice_get-get_or}
use Rattle.std.proofs.lemmas.Slice.Eq.{bytes_eq-Decides}
use Rattle.std.specs.List.{list_any, position_or_len}
use Rattle.std.specs.Option.{option_or, unwrap_or}
use Rattle.std.proofs.lemmas.Map.Keys.{IsDistinct-push, apart_from_distinct}
use Rattle.std.specs.Cmp.{IsEquivalence, decided}
use Rattle.std.specs.BTreeMap.{BTreeMap, is_at}
use Rattle.std.specs.Cmp.Lexicographic.{slice_cmp}
use Rattle.std.specs.List.{IsDistinct}
use Rattle.std.specs.Map.{lookup, update}
use Rattle.std.specs.Ordering.{nat_cmp}
use Rattle.ir_names.specs.NameTable.{given, number_of, GivesNumber}

pub bytes_equiv : IsEquivalence bytes_eq
bytes_equiv = decided bytes_eq bytes_eq-Decides

any_step : {X : Type 0} (p : X → Bool) (x : X) (xs : List X) → is_some (position p xs) ≡ list_any p xs →
    is_some (position p (x ∷ xs)) ≡ list_any p (x ∷ xs)
any_step p x xs before = grind (arith, common_steps, nat_tests)

-- a name has a place where it is in the list
pub position_any : {X : Type 0} (p : X → Bool) (xs : List X) → is_some (position p xs) ≡ list_any p xs
position_any p [] = refl
position_any p (x ∷ xs) = any_step p x xs (position_any p xs)

push_case : (place next len : ℕ) (hit : Bool) → place ≤ len → next ≡ cond (eqb place len) (len + cond hit 0 1) place →
    cond (ltb next (len + 1)) (Some next) None ≡ option_or (cond (ltb place len) (Some place) None) (cond hit (Some len) None)
push_case place next len hit within is_next = grind (arith, common_steps, nat_tests)

-- one more name has the next place, unless it has one
pub position_push : {X : Type 0} (p : X → Bool) (xs : List X) (x : X) →
    position p (xs ++ x ∷ []) ≡ option_or (position p xs) (if p x then Some (length xs) else None)
position_push p xs x =
    rw (length-append xs (x ∷ [])) (push_case (position_or_len p xs) (position_or_len p (xs ++ x ∷ [])) (length xs) (p x) (prefix_len-le-length _ xs) (position_or_len_push p xs x))

-- a place is one of the list's, and what stands there passes
pub place_within : {X : Type 0} (p : X → Bool) (xs : List X) (place : ℕ) → position p xs ≡ Some place → place < length xs
place_within p xs place is = grind (arith, common_steps, nat_tests)

pub place_passes : {X : Type 0} (p : X → Bool) (xs : List X) (place : ℕ) (d : X) → position p xs ≡ Some place → p (get_or xs place d) ≡ true
place_passes p xs place d is = grind (arith, common_steps, nat_tests, passes_at_first p xs d)

pub place_named : (names : List (List ℕ)) (name : List ℕ) (place : ℕ) → position (bytes_eq name) names ≡ Some place → slice_get names place ≡ Some name
place_named names name place is =
    slice_get-get_or names place [] (place_within (bytes_eq name) names place is)
    ∙ ap Some (sym ((bytes_eq-Decides name (get_or names place [])).0 (place_passes (bytes_eq name) names place [] is)))

-- a name that stands at a place stands at no other
place_at : (names : List (List ℕ)) (name : List ℕ) (place : ℕ) → IsDistinct bytes_eq names → place < length names →
    bytes_eq (get_or names place []) name ≡ true → position (bytes_eq name) names ≡ Some place
place_at names name place once within is =
    let same : bytes_eq name (get_or names place []) ≡ true = bytes_equiv.symm name (get_or names place []) ∙ is in
    let first : position_or_len (bytes_eq name) names ≡ place =
    position_or_len_is (bytes_eq name) names place [] (omega arith)
    (λ before less.
    bytes_equiv.congr name (get_or names place []) (get_or names before []) same
    ∙ bytes_equiv.symm (get_or names place []) (get_or names before [])
    ∙ apart_from_distinct bytes_eq names before place [] once less within)
    (λ _. same) in
    grind (arith, common_steps, nat_tests)

pub named_at : (names : List (Bor (List ℕ))) (name : List ℕ) (place : ℕ) (other : Bor (List ℕ)) →
    IsDistinct bytes_eq (map (λ given. given.now) names) → true ≡ ltb place (length names) → other ≡ get_or names place other →
    bytes_eq other.now name ≡ true → Some place ≡ position (bytes_eq name) (map (λ given. given.now) names)
named_at names name place other once is_within at same =
    let within : place < length names = grind (arith, nat_tests) in
    let there : get_or (map (λ given. given.now) names) place [] ≡ other.now =
    get_or-map (λ (given : Bor (List ℕ)). given.now) names place other [] within ∙ ap (λ (given : Bor (List ℕ)). given.now) (sym at) in
    sym (place_at (map (λ given. given.now) names) name place once (omega (arith, length-map names (λ (given : Bor (List ℕ)). given.now)))
    (ap (λ there. bytes_eq there name) there ∙ same))

pub within_some : {X : Type 0} (p : X → Bool) (xs : List X) (found : Option ℕ) → found ≡ position p xs → IfSome found (λ place. place < length xs)
within_some p xs None is = tt
within_some p xs (Some place) is = place_within p xs place (sym is)

pub named_some : (names : List (List ℕ)) (name : List ℕ) (found : Option ℕ) → found ≡ position (bytes_eq name) names → IfSome found (λ place. slice_get names place ≡ Some name)
named_some names name None is = tt
named_some names name (Some place) is = place_named names name place (sym is)

-- a list of names has each once, and one that it lacks can be added
pub once_push : (names : List (List ℕ)) (name : List ℕ) → IsDistinct bytes_eq names → position (bytes_eq name) names ≡ None → IsDistinct bytes_eq (names ++ name ∷ [])
once_push names name once none =
    IsDistinct-push bytes_equiv names name once (sym (position_any (bytes_eq name) names) ∙ ap is_some none)

pub no_names : (numbers : BTreeMap (Bor (List ℕ)) ℕ) (names : List (Bor (List ℕ))) → numbers.entries ≡ [] → names ≡ [] →
    ((name : List ℕ) → number_of numbers name ≡ position (bytes_eq name) (map (λ given. given.now) names)) × IsDistinct bytes_eq (map (λ given. given.now) names)
unfolding IsDistinct
no_names numbers names none empty = (
  λ name. ap (lookup (is_at (λ key. slice_cmp nat_cmp name key.now))) none ∙ ap (λ (given : List (Bor (List ℕ))). position (bytes_eq name) (map (λ given. given.now) given)) (sym empty),
  rw empty tt,
)

-- what a table has after an insert of a name that it lacked
pub given_once : (old : List ℕ → Option ℕ) (name other : List ℕ) (number : ℕ) → None ≡ old name →
    update bytes_eq old name (Some number) other ≡ option_or (old other) (if bytes_eq other name then Some number else None)
given_once old name other number none = grind (arith, common_steps, bytes_eq-Decides name other, bytes_eq-Decides other name)

-- and after an insert of one that it had, whose number is put back
pub given_twice : (old : List ℕ → Option ℕ) (name other : List ℕ) (number first : ℕ) → Some first ≡ old name →
    update bytes_eq (update bytes_eq old name (Some number)) name (Some first) other ≡ option_or (old other) (if bytes_eq other name then Some number else None)
given_twice old name other number first had = grind (arith, common_steps, bytes_eq-Decides name other, bytes_eq-Decides other name)

-- the same of what is seen of names, where a table has their places
pub place_push : {X Y : Type 0} (p : Y → Bool) (seen : X → Y) (xs : List X) (x : X) (before after : Option ℕ) (hit : Bool) (n : ℕ) →
    before ≡ position p (map seen xs) → after ≡ option_or before (if hit then Some n else None) → hit ≡ p (seen x) → n ≡ length xs →
    after ≡ position p (map seen (xs ++ x ∷ []))
place_push p seen xs x before after hit n had gives same number =
    let here : after ≡ option_or (position p (map seen xs)) (if p (seen x) then Some (length (map seen xs)) else None) = grind (arith, common_steps, length-map xs seen) in
    let pushed : position p (map seen xs ++ seen x ∷ []) ≡ option_or (position p (map seen xs)) (if p (seen x) then Some (length (map seen xs)) else None) = position_push p (map seen xs) (seen x) in
    let whole : map seen (xs ++ x ∷ []) ≡ map seen xs ++ seen x ∷ [] = map-append seen xs (x ∷ []) in
    here ∙ sym pushed ∙ ap (position p) (sym whole)

pub none_case : (found : Option ℕ) (first number count : ℕ) → IfSome found (λ place. place < count) → first ≡ unwrap_or found number →
    number ≤ first → number ≡ count → found ≡ None
none_case None first number count within is past whole = refl
none_case (Some place) first number count within is past whole = absurd (omega arith)

pub some_case : (found : Option ℕ) (first number : ℕ) → first ≡ unwrap_or found number → first < number → found ≡ Some first
some_case None first number is below = absurd (omega arith)
some_case (Some place) first number is below = ap Some (sym is)

-- a name has no place where the table gives it the next one
pub none_before : (names : List (List ℕ)) (name : List ℕ) (first number : ℕ) → first ≡ unwrap_or (position (bytes_eq name) names) number →
    number ≤ first → number ≡ length names → position (bytes_eq name) names ≡ None
none_before names name first number is past whole =
    none_case (position (bytes_eq name) names) first number (length names) (within_some (bytes_eq name) names (position (bytes_eq name) names) refl) is past whole

pub given_new : (names : List (List ℕ)) (name : List ℕ) → position (bytes_eq name) names ≡ None → given names name ≡ names ++ name ∷ []
given_new names name none =
    let lacks : list_any (bytes_eq name) names ≡ false = sym (position_any (bytes_eq name) names) ∙ ap is_some none in
    ap (λ has. if has then names else names ++ name ∷ []) lacks

pub given_again : (names : List (List ℕ)) (name : List ℕ) (first number : ℕ) → first ≡ unwrap_or (position (bytes_eq name) names) number →
    first < number → given names name ≡ names
given_again names name first number is below =
    let has : list_any (bytes_eq name) names ≡ true = sym (position_any (bytes_eq name) names) ∙ ap is_some (some_case (position (bytes_eq name) names) first number is below) in
    ap (λ there. if there then names else names ++ name ∷ []) has

abbrev seen : List (Bor (List ℕ)) → List (List ℕ)
seen names = map (λ name. name.now) names

-- what a table of names is after a new one
module _ (before after : BTreeMap (Bor (List ℕ)) ℕ) (names more : List (Bor (List ℕ))) (name : Bor (List ℕ)) (first number : ℕ)
    (places : (other : List ℕ) → number_of before other ≡ position (bytes_eq other) (seen names)) (gives : GivesNumber before after name.now number)
    (is : first ≡ unwrap_or (number_of before name.now) number) (past : number ≤ first) (whole : number ≡ length names) (pushed : more ≡ names ++ name ∷ []) where
  lacked : position (bytes_eq name.now) (seen names) ≡ None
  lacked = none_before (seen names) name.now first number (is ∙ ap (λ found. unwrap_or found number) (places name.now)) past (whole ∙ sym (length-map names (λ given. given.now)))

  pushed_seen : seen more ≡ seen names ++ name.now ∷ []
  pushed_seen = ap seen pushed ∙ map-append (λ given. given.now) names (name ∷ [])

  pub new_places : (other : List ℕ) → number_of after other ≡ position (bytes_eq other) (seen more)
  new_places other =
      place_push (bytes_eq other) (λ given. given.now) names name _ _ _ _ (places other) (gives other) refl whole ∙ ap (λ given. position (bytes_eq other) (seen given)) (sym pushed)

  pub new_once : IsDistinct bytes_eq (seen names) → IsDistinct bytes_eq (seen more)
  new_once once = rw pushed_seen (once_push (seen names) name.now once lacked)

  pub new_given : seen more ≡ given (seen names) name.now
  new_given = pushed_seen ∙ sym (given_new (seen names) name.now lacked)

push_new : {X : Type 0} (p : X → Bool) (xs : List X) (x : X) → position p xs ≡ None → p x ≡ true → position p (xs ++ x ∷ []) ≡ Some (length xs)
push_new p xs x none hit =
    position_push p xs x ∙ ap (λ found. option_or found (if p x then Some (length xs) else None)) none ∙ ap (λ b. if b then Some (length xs) else None) hit

push_kept : {X : Type 0} (p : X → Bool) (xs : List X) (x : X) (place : ℕ) → position p xs ≡ Some place → position p (xs ++ x ∷ []) ≡ Some place
push_kept p xs x place some = position_push p xs x ∙ ap (λ found. option_or found (if p x then Some (length xs) else None)) some

pub some_or_none : {X : Type 0} (found : Option X) → is_some found ≡ false → found ≡ None
some_or_none None none = refl
some_or_none (Some place) none = absurd (false≢true (sym none))

-- a list to which a name is added unless it is there
module _ {X : Type 0} (eq : X → X → Bool) (itself : (x : X) → eq x x ≡ true) where
  abbrev added : List X → X → List X
  added xs x = if list_any (eq x) xs then xs else xs ++ x ∷ []

  pub added_new : (xs : List X) (x : X) → list_any (eq x) xs ≡ false → position (eq x) (added xs x) ≡ Some (length xs)
  added_new xs x none =
      ap (λ there. position (eq x) (if there then xs else xs ++ x ∷ [])) none
      ∙ push_new (eq x) xs x (some_or_none (position (eq x) xs) (position_any (eq x) xs ∙ none)) (itself x)

  kept_case : (there : Bool) (xs : List X) (x other : X) (place : ℕ) → position (eq other) xs ≡ Some place →
      position (eq other) (if there then xs else xs ++ x ∷ []) ≡ Some place
  kept_case true xs x other place some = some
  kept_case false xs x other place some = push_kept (eq other) xs x place some

  pub added_kept : (xs : List X) (x other : X) (place : ℕ) → position (eq other) xs ≡ Some place → position (eq other) (added xs x) ≡ Some place
  added_kept xs x other place some = kept_case (list_any (eq x) xs) xs x other place some
