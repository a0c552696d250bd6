-- What the parts of a table of local names are after a definition.
use Rattle.std.proofs.Common.{◌≡◌, ℕ, ◌+◌, ◌<◌, ◌≤◌, Bool, true, false, List, [], ◌∷◌, ◌++◌, ◌∙◌, length, Bor, Option, Some, None, IfSome, is_some, refl, ap, sym, arith, nat_eq, bytes_eq, position, get_or, if◌then◌else◌, max, zero, suc, ⊎_elim, length-append}
use Rattle.std.proofs.lemmas.List.{get_or_append_left, get_or_push}
use Rattle.std.proofs.lemmas.Bool.{cases_lt, false≢true}
use Rattle.std.proofs.lemmas.Bool.Decides.{nat_tests}
use Rattle.std.proofs.lemmas.Grind.{common_steps}
use Rattle.std.proofs.lemmas.Map.Keys.{IsDistinct-push}
use Rattle.std.specs.BTreeMap.{BTreeMap, get, is_at}
use Rattle.std.specs.Cmp.{IsEquivalence, nat_eq_equiv}
use Rattle.std.specs.List.{IsDistinct, list_any}
use Rattle.std.specs.Option.{option_or, option_map, unwrap_or}
use Rattle.std.specs.Cmp.Lexicographic.{slice_cmp}
use Rattle.std.specs.Map.{lookup}
use Rattle.std.specs.Ordering.{nat_cmp}
use Rattle.ir_names.specs.declared.local_name.LocalName.{LocalName}
use Rattle.ir_names.specs.declared.local_name.LocalName.TheVariants.{Number, Plain}
use Rattle.ir_names.specs.declared.local_table.Given.TheVariants.{Fresh, Duplicate, Below}
use Rattle.ir_names.specs.LocalName.{local_eq}
use Rattle.ir_names.specs.LocalPlaces.{GivesPlace, HasPlaces}
use Rattle.ir_names.specs.LocalTable.{count_of, defined, given, has, is_below, past}
use Rattle.ir_names.specs.NameTable.{GivesNumber, number_of}
use Rattle.ir_names.proofs.Tables.{bytes_equiv, none_case, position_any, position_push, some_case, some_or_none, within_some}

-- ---- names

pub local_refl : (a : LocalName) → local_eq a a ≡ true
local_refl (Number a) = nat_eq_equiv.refl a
local_refl (Plain a) = bytes_equiv.refl a

local_symm : (a b : LocalName) → local_eq a b ≡ local_eq b a
local_symm (Number a) (Number b) = nat_eq_equiv.symm a b
local_symm (Number a) (Plain b) = refl
local_symm (Plain a) (Number b) = refl
local_symm (Plain a) (Plain b) = bytes_equiv.symm a b

local_congr : (a b c : LocalName) → local_eq a b ≡ true → local_eq a c ≡ local_eq b c
local_congr (Number a) (Number b) (Number c) same = nat_eq_equiv.congr a b c same
local_congr (Number a) (Number b) (Plain c) same = refl
local_congr (Number a) (Plain b) c same = absurd (false≢true same)
local_congr (Plain a) (Number b) c same = absurd (false≢true same)
local_congr (Plain a) (Plain b) (Number c) same = refl
local_congr (Plain a) (Plain b) (Plain c) same = bytes_equiv.congr a b c same

local_equiv : IsEquivalence local_eq
local_equiv = record { refl = local_refl; symm = local_symm; congr = local_congr }

has_none : (names : List LocalName) (name : LocalName) → position (local_eq name) names ≡ None → has names name ≡ false
has_none names name none = sym (position_any (local_eq name) names) ∙ ap is_some none

has_some : (names : List LocalName) (name : LocalName) (place : ℕ) → position (local_eq name) names ≡ Some place → has names name ≡ true
has_some names name place some = sym (position_any (local_eq name) names) ∙ ap is_some some

-- ---- the count

count_step : (first rest last : ℕ) → max first (max rest last) ≡ max (max first rest) last
count_step first rest last = omega arith

count_push : (names : List LocalName) (name : LocalName) → count_of (names ++ name ∷ []) ≡ max (count_of names) (past name)
count_push [] name = omega arith
count_push (first ∷ names) name = ap (max (past first)) (count_push names name) ∙ count_step (past first) (count_of names) (past name)

apart : (first : LocalName) (number : ℕ) → past first ≤ number → local_eq (Number number) first ≡ false
apart (Number other) number above = grind (arith, nat_tests)
apart (Plain name) number above = refl

-- no name is a number from the count on
pub none_above : (names : List LocalName) (number : ℕ) → count_of names ≤ number → list_any (local_eq (Number number)) names ≡ false
none_above [] number above = refl
none_above (first ∷ names) number above =
    let here = apart first number (omega arith) in
    let rest = none_above names number (omega arith) in
    grind (arith, common_steps)

pub no_place_above : (names : List LocalName) (number : ℕ) → count_of names ≤ number → position (local_eq (Number number)) names ≡ None
no_place_above names number above =
    some_or_none (position (local_eq (Number number)) names) (position_any (local_eq (Number number)) names ∙ none_above names number above)

-- ---- answers and names after a definition

pub duplicate_given : (names : List LocalName) (name : LocalName) → has names name ≡ true → Duplicate ≡ given names name
duplicate_given names name there = ap (λ is. if is then Duplicate else if is_below name (count_of names) then Below else Fresh) (sym there)

pub duplicate_defined : (names : List LocalName) (name : LocalName) → has names name ≡ true → names ≡ defined names name
duplicate_defined names name there = ap (λ is. if is then names else names ++ name ∷ []) (sym there)

pub fresh_given : (names : List LocalName) (name : LocalName) → has names name ≡ false → is_below name (count_of names) ≡ false → Fresh ≡ given names name
fresh_given names name lacks above =
    ap (λ under. if under then Below else Fresh) (sym above) ∙ ap (λ is. if is then Duplicate else if is_below name (count_of names) then Below else Fresh) (sym lacks)

pub below_given : (names : List LocalName) (name : LocalName) → has names name ≡ false → is_below name (count_of names) ≡ true → Below ≡ given names name
below_given names name lacks under =
    ap (λ is. if is then Below else Fresh) (sym under) ∙ ap (λ is. if is then Duplicate else if is_below name (count_of names) then Below else Fresh) (sym lacks)

pub new_defined : (names : List LocalName) (name : LocalName) → has names name ≡ false → names ++ name ∷ [] ≡ defined names name
new_defined names name lacks = ap (λ is. if is then names else names ++ name ∷ []) (sym lacks)

-- ---- places

or_none : (found : Option ℕ) → option_or found None ≡ found
or_none None = refl
or_none (Some place) = refl

or_assoc : (a b c : Option ℕ) → option_or a (option_or b c) ≡ option_or (option_or a b) c
or_assoc None b c = refl
or_assoc (Some place) b c = refl

or_there : (f : ℕ → ℕ) (found rest : Option ℕ) → is_some found ≡ true → is_some (option_or (option_map f found) rest) ≡ true
or_there f None rest there = absurd (false≢true there)
or_there f (Some index) rest there = refl

any_at : (numbers : List ℕ) (index : ℕ) → index < length numbers → list_any (nat_eq (get_or numbers index 0)) numbers ≡ true
any_at [] index within = absurd (omega arith)
any_at (first ∷ numbers) zero within = grind (arith, common_steps, nat_tests)
any_at (first ∷ numbers) (suc index) within =
    let rest = any_at numbers index (omega arith) in
    grind (arith, common_steps, nat_tests)

-- the place of a number once one more has risen
next_place : (found rest : Option ℕ) (places : List ℕ) (place count : ℕ) (hit : Bool) → IfSome found (λ index. index < length places) → count ≡ length places →
    (hit ≡ true → option_or (option_map (λ index. get_or places index 0) found) rest ≡ None) →
    option_or (option_map (λ index. get_or (places ++ place ∷ []) index 0) (option_or found (if hit then Some count else None))) rest
    ≡ option_or (option_or (option_map (λ index. get_or places index 0) found) rest) (if hit then Some place else None)
next_place (Some index) rest places place count hit within whole lacks = ap Some (get_or_append_left places (place ∷ []) 0 index within)
next_place None rest places place count true within whole lacks =
    ap Some (get_or_push places place 0 count (sym whole)) ∙ ap (λ found. option_or found (Some place)) (sym (lacks refl))
next_place None rest places place count false within whole lacks = sym (or_none rest)

module _ (names : List LocalName) (plain : BTreeMap (Bor (List ℕ)) ℕ) (rising places : List ℕ) (below : BTreeMap ℕ ℕ) (count : ℕ)
    (holds : HasPlaces names plain rising places below count) where
  abbrev at : ℕ → Option ℕ
  at number = option_map (λ index. get_or places index 0) (position (nat_eq number) rising)

  pub rising_has : (number : ℕ) → is_some (position (nat_eq number) rising) ≡ true → has names (Number number) ≡ true
  rising_has number there =
      sym (position_any (local_eq (Number number)) names) ∙ ap is_some (sym (holds.number_at number))
      ∙ or_there (λ index. get_or places index 0) (position (nat_eq number) rising) (get nat_cmp below number) there

  -- a plain name
  module _ (name : List ℕ) (first place : ℕ) (is : first ≡ unwrap_or (number_of plain name) place) where
    plain_is : first ≡ unwrap_or (position (local_eq (Plain name)) names) place
    plain_is = is ∙ ap (λ found. unwrap_or found place) (holds.plain_at name)

    pub plain_again : first < place → has names (Plain name) ≡ true
    plain_again less = has_some names (Plain name) first (some_case (position (local_eq (Plain name)) names) first place plain_is less)

    module _ (more : place ≤ first) (whole : place ≡ length names) where
      pub plain_new : has names (Plain name) ≡ false
      plain_new =
          has_none names (Plain name)
          (none_case (position (local_eq (Plain name)) names) first place (length names) (within_some (local_eq (Plain name)) names (position (local_eq (Plain name)) names) refl) plain_is more whole)

      pub plain_places : (after : BTreeMap (Bor (List ℕ)) ℕ) → GivesNumber plain after name place → HasPlaces (names ++ Plain name ∷ []) after rising places below count
      plain_places after gives = record {
        plain_at = λ other.
            gives other ∙ ap (λ before. option_or before (if bytes_eq other name then Some place else None)) (holds.plain_at other)
            ∙ ap (λ number. option_or (position (local_eq (Plain other)) names) (if bytes_eq other name then Some number else None)) whole
            ∙ sym (position_push (local_eq (Plain other)) names (Plain name));
        number_at = λ number. holds.number_at number ∙ sym (position_push (local_eq (Number number)) names (Plain name) ∙ or_none (position (local_eq (Number number)) names));
        paired = holds.paired;
        counted = holds.counted ∙ (omega arith) ∙ sym (count_push names (Plain name));
        once = IsDistinct-push local_equiv names (Plain name) holds.once plain_new;
      }

  -- a number below the count
  module _ (number first place : ℕ) (lacks : position (nat_eq number) rising ≡ None) (is : first ≡ unwrap_or (get nat_cmp below number) place) where
    below_is : first ≡ unwrap_or (position (local_eq (Number number)) names) place
    below_is =
        is ∙ ap (λ found. unwrap_or (option_or (option_map (λ index. get_or places index 0) found) (get nat_cmp below number)) place) (sym lacks)
        ∙ ap (λ found. unwrap_or found place) (holds.number_at number)

    pub below_again : first < place → has names (Number number) ≡ true
    below_again less = has_some names (Number number) first (some_case (position (local_eq (Number number)) names) first place below_is less)

    module _ (more : place ≤ first) (whole : place ≡ length names) where
      pub below_new : has names (Number number) ≡ false
      below_new =
          has_none names (Number number)
          (none_case (position (local_eq (Number number)) names) first place (length names) (within_some (local_eq (Number number)) names (position (local_eq (Number number)) names) refl) below_is more whole)

      pub below_places : number < count_of names → (after : BTreeMap ℕ ℕ) → GivesPlace below after number place → HasPlaces (names ++ Number number ∷ []) plain rising places after count
      below_places under after gives = record {
        plain_at = λ name. holds.plain_at name ∙ sym (position_push (local_eq (Plain name)) names (Number number) ∙ or_none (position (local_eq (Plain name)) names));
        number_at = λ other.
            ap (option_or (at other)) (gives other) ∙ or_assoc (at other) (get nat_cmp below other) (if nat_eq other number then Some place else None)
            ∙ ap (λ before. option_or before (if nat_eq other number then Some place else None)) (holds.number_at other)
            ∙ ap (λ next. option_or (position (local_eq (Number other)) names) (if nat_eq other number then Some next else None)) whole
            ∙ sym (position_push (local_eq (Number other)) names (Number number));
        paired = holds.paired;
        counted = holds.counted ∙ (omega arith) ∙ sym (count_push names (Number number));
        once = IsDistinct-push local_equiv names (Number number) holds.once below_new;
      }

  -- a number to which the count has come, or one above
  module _ (number : ℕ) (above : count_of names ≤ number) where
    pub next_new : has names (Number number) ≡ false
    next_new = none_above names number above

    pub rising_under : (index : ℕ) → index < length rising → get_or rising index 0 < number
    rising_under index within = ⊎_elim
        (λ less. less)
        (λ more.
        let other = get_or rising index 0 in
        let there = rising_has other (position_any (nat_eq other) rising ∙ any_at rising index within) in
        absurd (false≢true (sym (none_above names other (omega arith)) ∙ there)))
        (cases_lt (get_or rising index 0) number)

    pub next_places : (place : ℕ) → place ≡ length names → HasPlaces (names ++ Number number ∷ []) plain (rising ++ number ∷ []) (places ++ place ∷ []) below (number + 1)
    next_places place whole = record {
      plain_at = λ name. holds.plain_at name ∙ sym (position_push (local_eq (Plain name)) names (Number number) ∙ or_none (position (local_eq (Plain name)) names));
      number_at = λ other.
          ap (λ found. option_or (option_map (λ index. get_or (places ++ place ∷ []) index 0) found) (get nat_cmp below other)) (position_push (nat_eq other) rising number)
          ∙ next_place (position (nat_eq other) rising) (get nat_cmp below other) places place (length rising) (nat_eq other number)
          (rw holds.paired (within_some (nat_eq other) rising (position (nat_eq other) rising) refl)) (sym holds.paired)
          (λ same. holds.number_at other ∙ no_place_above names other (let is : other ≡ number = grind (arith, nat_tests) in omega arith))
          ∙ ap (λ before. option_or before (if nat_eq other number then Some place else None)) (holds.number_at other)
          ∙ ap (λ next. option_or (position (local_eq (Number other)) names) (if nat_eq other number then Some next else None)) whole
          ∙ sym (position_push (local_eq (Number other)) names (Number number));
      paired = length-append places (place ∷ []) ∙ ap (λ n. n + 1) holds.paired ∙ sym (length-append rising (number ∷ []));
      counted = (omega arith) ∙ sym (count_push names (Number number));
      once = IsDistinct-push local_equiv names (Number number) holds.once next_new;
    }

-- ---- a table without names

pub no_locals : (names : List LocalName) (plain : BTreeMap (Bor (List ℕ)) ℕ) (rising places : List ℕ) (below : BTreeMap ℕ ℕ) (count : ℕ) →
    names ≡ [] → plain.entries ≡ [] → rising ≡ [] → places ≡ [] → below.entries ≡ [] → count ≡ 0 → HasPlaces names plain rising places below count
unfolding IsDistinct
no_locals names plain rising places below count no_names no_plain no_rising no_places no_below zero_count = record {
  plain_at = λ name. ap (lookup (is_at (λ key. slice_cmp nat_cmp name key.now))) no_plain ∙ ap (position (local_eq (Plain name))) (sym no_names);
  number_at = λ number.
      ap (λ (given : List ℕ). option_or (option_map (λ index. get_or places index 0) (position (nat_eq number) given)) (get nat_cmp below number)) no_rising
      ∙ ap (lookup (is_at (nat_cmp number))) no_below ∙ ap (position (local_eq (Number number))) (sym no_names);
  paired = ap length no_places ∙ sym (ap length no_rising);
  counted = zero_count ∙ ap count_of (sym no_names);
  once = rw no_names tt;
}
