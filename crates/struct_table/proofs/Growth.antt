-- What is settled grows: each struct that is settled one after another is settled in some round too, and where no more can
-- be, no round has more.
use Rattle.std.proofs.Common.{◌≡◌, ◌≢◌, ◌⊎◌, inl, inr, ◌∙◌, ℕ, zero, suc, ◌+◌, ◌≤◌, ◌<◌, Bool, true, false, nat_eq, nat_lt, is_none, List, [], ◌∷◌, length, get_or, set, replicate, Option, Some, None, refl, ap, sym, subst, arith, if◌then◌else◌}
use Rattle.std.proofs.lemmas.Bool.{cases_Bool, eqb-false, eqb-true, false≢true, lt-ltb, ltb-false, ltb-true}
use Rattle.std.proofs.lemmas.List.{ext_get_or, get_or-set_same, get_or-set_other, length-set}
use Rattle.std.proofs.Math.ListN.{get_or-eq_default}
use Rattle.ir_read.specs.Node.{Told}
use Rattle.ir_layout.specs.declared.extent.Extent.{Extent}
use Rattle.struct_table.specs.Rounds.{next_extent, next_round, none_settled, round_after, settled}
use Rattle.struct_table.specs.Settling.{is_open, open_count, settle, settle_below, with_extent}
use Rattle.struct_table.proofs.Rising.{Below, Known, and_both, both, get, length_next, length_replicate, length_round, next_at, next_below, none_get, none_some, rounds_rise_to}

lt_from : (a b : ℕ) → nat_lt a b ≡ true → a < b
lt_from a b is = ltb-true a b is

le_from : (a b : ℕ) → nat_lt a b ≡ false → b ≤ a
le_from a b is = ltb-false a b is

lt_to : (a b : ℕ) → a < b → nat_lt a b ≡ true
lt_to a b is = lt-ltb a b is

eq_from : (a b : ℕ) → nat_eq a b ≡ true → a ≡ b
eq_from a b is = eqb-true a b is

ne_from : (a b : ℕ) → nat_eq a b ≡ false → a ≢ b
ne_from a b is = eqb-false a b is

last_is : (number count : ℕ) → nat_lt number count ≡ false → number < suc count → number ≡ count
last_is number count behind within = let above = le_from number count behind in omega (arith, above, within)

is_none_from : (found : Option Extent) → is_none found ≡ true → found ≡ None
is_none_from None is = refl
is_none_from (Some extent) is = absurd (false≢true is)

open_from : (known : Known) (number : ℕ) → number < length known → get known number ≡ None → is_open known number ≡ true
open_from known number within is = and_both (nat_lt number (length known)) (is_none (get known number)) (lt_to number (length known) within) (ap is_none is)

-- ---- settling

pub record IsGrown (keep : ℕ → ℕ) (names : List (List ℕ)) (types : List (List Told)) (known : Known) : Type 0 where
  pub len : length known ≡ length types
  pub justified : Below known (next_round keep names known types)
  pub rounds : ℕ
  pub counted : rounds + open_count known ≡ length types
  pub within : Below known (round_after keep names types rounds)

abbrev pub IsClosed : (ℕ → ℕ) → List (List ℕ) → List (List Told) → Known → Type 0
IsClosed keep names types known = Below (next_round keep names known types) known

count_none : (count : ℕ) → open_count (replicate count None) ≡ count
count_none zero = refl
count_none (suc count) = let rest = count_none count in omega (arith, rest)

pub none_grown : (keep : ℕ → ℕ) (names : List (List ℕ)) (types : List (List Told)) → IsGrown keep names types (none_settled types)
none_grown keep names types = record {
  len = length_replicate (length types) None;
  justified = λ number extent is. absurd (none_get (length types) number extent is);
  rounds = 0;
  counted = let count = count_none (length types) in omega (arith, count);
  within = λ number extent is. is;
}

open_set : (known : Known) (number : ℕ) (extent : Extent) → number < length known → get known number ≡ None →
    suc (open_count (set known number (Some extent))) ≡ open_count known
open_set [] number extent within is = absurd (omega (arith, within))
open_set (one ∷ known) zero extent within is = rw is (omega arith)
open_set (one ∷ known) (suc number) extent within is =
    let rest = open_set known number extent (omega (arith, within)) is in omega (arith, rest)

-- one that wasn't known is known now
set_below : (known : Known) (number : ℕ) (extent : Extent) → get known number ≡ None → Below known (set known number (Some extent))
set_below known number extent is other found found_is = elim (cases_Bool (nat_eq other number)) [
  | inl same ↦ none_some found (sym is ∙ ap (get known) (sym (eq_from other number same)) ∙ found_is)
  | inr differs ↦ get_or-set_other known number other (Some extent) None (λ same. ne_from other number differs same) ∙ found_is
]

set_within : (known more : Known) (number : ℕ) (extent : Extent) → number < length known → Below known more → get more number ≡ Some extent →
    Below (set known number (Some extent)) more
set_within known more number extent within below is other found found_is = elim (cases_Bool (nat_eq other number)) [
  | inl same ↦
      let at = eq_from other number same in
      ap (get more) at ∙ is ∙ sym (get_or-set_same known number (Some extent) None within) ∙ ap (get (set known number (Some extent))) (sym at) ∙ found_is
  | inr differs ↦
      below other found (sym (get_or-set_other known number other (Some extent) None (λ same. ne_from other number differs same)) ∙ found_is)
]

set_grown : (keep : ℕ → ℕ) (names : List (List ℕ)) (types : List (List Told)) (known : Known) (number : ℕ) (extent : Extent) →
    IsGrown keep names types known → number < length known → get known number ≡ None →
    next_extent keep names known (get_or types number []) ≡ Some extent → IsGrown keep names types (set known number (Some extent))
set_grown keep names types known number extent grown within none is =
    let in_types : number < length types = subst (λ count. number < count) grown.len within in
    let next_is = next_at keep names known types number in_types ∙ is in
    let after = set known number (Some extent) in
    let risen = next_below keep names known after (set_below known number extent none) types in
    let deeper = next_below keep names known (round_after keep names types grown.rounds) grown.within types in
    let counted = grown.counted in
    let count = open_set known number extent within none in
    record {
      len = length-set known number (Some extent) ∙ grown.len;
      justified = λ other found found_is. risen other found
          (set_within known (next_round keep names known types) number extent within grown.justified next_is other found found_is);
      rounds = suc grown.rounds;
      counted = omega (arith, counted, count);
      within = λ other found found_is. deeper other found
          (set_within known (next_round keep names known types) number extent within grown.justified next_is other found found_is);
    }

open_is : (known : Known) (number : ℕ) → is_open known number ≡ true → (number < length known) × (get known number ≡ None)
open_is known number is =
    let parts = both (nat_lt number (length known)) (is_none (get known number)) is in
    (lt_from number (length known) parts.0, is_none_from (get known number) parts.1)

with_grown : (keep : ℕ → ℕ) (names : List (List ℕ)) (types : List (List Told)) (known : Known) (number : ℕ) (found : Option Extent) →
    IsGrown keep names types known → number < length known → get known number ≡ None →
    next_extent keep names known (get_or types number []) ≡ found → IsGrown keep names types (with_extent known number found)
with_grown keep names types known number None grown within none is = grown
with_grown keep names types known number (Some extent) grown within none is = set_grown keep names types known number extent grown within none is

pub settle_grown : (keep : ℕ → ℕ) (names : List (List ℕ)) (types : List (List Told)) (known : Known) (number : ℕ) →
    IsGrown keep names types known → IsGrown keep names types (settle keep names types known number)
settle_grown keep names types known number grown = elim (cases_Bool (is_open known number)) [
  | inl is ↦
      let parts = open_is known number is in
      rw is (with_grown keep names types known number (next_extent keep names known (get_or types number [])) grown parts.0 parts.1 refl)
  | inr is ↦ rw is grown
]

pub all_grown : (keep : ℕ → ℕ) (names : List (List ℕ)) (types : List (List Told)) (known : Known) (count : ℕ) →
    IsGrown keep names types known → IsGrown keep names types (settle_below keep names types known count)
all_grown keep names types known zero grown = grown
all_grown keep names types known (suc count) grown =
    settle_grown keep names types (settle_below keep names types known count) count (all_grown keep names types known count grown)

-- ---- a pass that settles nothing

-- a struct that can be settled isn't open
abbrev Stuck : (ℕ → ℕ) → List (List ℕ) → List (List Told) → Known → ℕ → Type 0
Stuck keep names types known number = (extent : Extent) → next_extent keep names known (get_or types number []) ≡ Some extent → is_open known number ≡ false

abbrev Settles : (ℕ → ℕ) → List (List ℕ) → List (List Told) → Known → ℕ → Known → Type 0
Settles keep names types known number after =
    ((after ≡ known) × Stuck keep names types known number) ⊎ (open_count after < open_count known)

with_settles : (keep : ℕ → ℕ) (names : List (List ℕ)) (types : List (List Told)) (known : Known) (number : ℕ) (found : Option Extent) →
    number < length known → get known number ≡ None → next_extent keep names known (get_or types number []) ≡ found →
    Settles keep names types known number (with_extent known number found)
with_settles keep names types known number None within none is = inl (refl, λ extent other. none_some extent (sym is ∙ other))
with_settles keep names types known number (Some extent) within none is =
    let count = open_set known number extent within none in inr (omega (arith, count))

settle_settles : (keep : ℕ → ℕ) (names : List (List ℕ)) (types : List (List Told)) (known : Known) (number : ℕ) →
    Settles keep names types known number (settle keep names types known number)
settle_settles keep names types known number =
    let found = next_extent keep names known (get_or types number []) in
    elim (cases_Bool (is_open known number)) [
      | inl is ↦
          let parts = open_is known number is in
          subst (λ open_yet. Settles keep names types known number (if open_yet then with_extent known number found else known)) (sym is)
          (with_settles keep names types known number found parts.0 parts.1 refl)
      | inr is ↦
          subst (λ open_yet. Settles keep names types known number (if open_yet then with_extent known number found else known)) (sym is)
          (inl (refl, λ extent other. is))
    ]

abbrev AllStuck : (ℕ → ℕ) → List (List ℕ) → List (List Told) → Known → ℕ → Type 0
AllStuck keep names types known count = (number : ℕ) → number < count → Stuck keep names types known number

one_more_stuck : (keep : ℕ → ℕ) (names : List (List ℕ)) (types : List (List Told)) (known : Known) (count : ℕ) →
    AllStuck keep names types known count → Stuck keep names types known count → AllStuck keep names types known (suc count)
one_more_stuck keep names types known count all last number within = elim (cases_Bool (nat_lt number count)) [
  | inl below ↦ all number (lt_from number count below)
  | inr behind ↦ subst (λ one. Stuck keep names types known one) (sym (last_is number count behind within)) last
]

after_pass : (keep : ℕ → ℕ) (names : List (List ℕ)) (types : List (List Told)) (known before after : Known) (count : ℕ) →
    ((before ≡ known) × AllStuck keep names types known count) ⊎ (open_count before < open_count known) →
    Settles keep names types before count after →
    ((after ≡ known) × AllStuck keep names types known (suc count)) ⊎ (open_count after < open_count known)
after_pass keep names types known before after count (inl all) (inl one) =
    inl (one.0 ∙ all.0, one_more_stuck keep names types known count all.1 (subst (λ now. Stuck keep names types now count) all.0 one.1))
after_pass keep names types known before after count (inl all) (inr less) = inr (subst (λ now. open_count after < open_count now) all.0 less)
after_pass keep names types known before after count (inr less) (inl one) = inr (subst (λ now. open_count now < open_count known) (sym one.0) less)
after_pass keep names types known before after count (inr less) (inr fewer) = inr (omega (arith, less, fewer))

pub pass_settles : (keep : ℕ → ℕ) (names : List (List ℕ)) (types : List (List Told)) (known : Known) (count : ℕ) →
    ((settle_below keep names types known count ≡ known) × AllStuck keep names types known count) ⊎ (open_count (settle_below keep names types known count) < open_count known)
pass_settles keep names types known zero = inl (refl, λ number within. absurd (omega (arith, within)))
pass_settles keep names types known (suc count) =
    after_pass keep names types known (settle_below keep names types known count) (settle_below keep names types known (suc count)) count
    (pass_settles keep names types known count) (settle_settles keep names types (settle_below keep names types known count) count)

-- what isn't open is known
known_is : (known : Known) (number : ℕ) (found next : Extent) → (found_here : Option Extent) → get known number ≡ found_here → number < length known →
    is_open known number ≡ false → ((extent : Extent) → get known number ≡ Some extent → Some extent ≡ Some next) → get known number ≡ Some next
known_is known number found next None is within closed same = absurd (false≢true (sym closed ∙ open_from known number within is))
known_is known number found next (Some extent) is within closed same = is ∙ same extent is

pub stuck_closed : (keep : ℕ → ℕ) (names : List (List ℕ)) (types : List (List Told)) (known : Known) → IsGrown keep names types known →
    AllStuck keep names types known (length types) → IsClosed keep names types known
stuck_closed keep names types known grown all number extent is = elim (cases_Bool (nat_lt number (length types))) [
  | inl inside ↦
      let within = lt_from number (length types) inside in
      known_is known number extent extent (get known number) refl (subst (λ count. number < count) (sym grown.len) within)
      (all number within extent (sym (next_at keep names known types number within) ∙ is))
      (λ found found_is. sym (grown.justified number found found_is) ∙ is)
  | inr outside ↦
      none_some extent (sym (get_or-eq_default (next_round keep names known types) None (subst (λ count. count ≤ number) (sym (length_next keep names known types)) (le_from number (length types) outside))) ∙ is)
]

-- a pass leaves fewer open, or settles nothing, and then nothing can be
pub pass_closed : (keep : ℕ → ℕ) (names : List (List ℕ)) (types : List (List Told)) (known : Known) → IsGrown keep names types known →
    nat_lt (open_count (settle_below keep names types known (length types))) (open_count known) ≡ false →
    IsClosed keep names types (settle_below keep names types known (length types))
pass_closed keep names types known grown more = elim (pass_settles keep names types known (length types)) [
  | inl all ↦ subst (IsClosed keep names types) (sym all.0) (stuck_closed keep names types known grown all.1)
  | inr less ↦ absurd (false≢true (sym more ∙ lt_to (open_count (settle_below keep names types known (length types))) (open_count known) less))
]

-- ---- the end

rounds_below : (keep : ℕ → ℕ) (names : List (List ℕ)) (types : List (List Told)) (known : Known) → IsClosed keep names types known → (rounds : ℕ) →
    Below (round_after keep names types rounds) known
rounds_below keep names types known closed zero number extent is = absurd (none_get (length types) number extent is)
rounds_below keep names types known closed (suc rounds) number extent is =
    closed number extent (next_below keep names (round_after keep names types rounds) known (rounds_below keep names types known closed rounds) types number extent is)

alike : (one other : Option Extent) → ((extent : Extent) → one ≡ Some extent → other ≡ Some extent) →
    ((extent : Extent) → other ≡ Some extent → one ≡ Some extent) → one ≡ other
alike (Some extent) other there back = sym (there extent refl)
alike None None there back = refl
alike None (Some extent) there back = none_some extent (back extent refl)

pub grown_settled : (keep : ℕ → ℕ) (names : List (List ℕ)) (types : List (List Told)) (known : Known) →
    IsGrown keep names types known → IsClosed keep names types known → known ≡ settled keep names types
grown_settled keep names types known grown closed =
    let counted = grown.counted in
    let enough : grown.rounds ≤ length types = omega (arith, counted) in
    ext_get_or None known (settled keep names types) (grown.len ∙ sym (length_round keep names types (length types)))
    (λ number within. alike (get known number) (get (settled keep names types) number)
    (λ extent is. rounds_rise_to keep names types grown.rounds (length types) enough number extent (grown.within number extent is))
    (λ extent is. rounds_below keep names types known closed (length types) number extent is))

abbrev pub still : Bool → ℕ
still true = 1
still false = 0

pass_fewer : (keep : ℕ → ℕ) (names : List (List ℕ)) (types : List (List Told)) (known : Known) (count : ℕ) →
    open_count (settle_below keep names types known count) ≤ open_count known
pass_fewer keep names types known count = elim (pass_settles keep names types known count) [
  | inl all ↦ let same = ap open_count all.0 in omega (arith, same)
  | inr less ↦ omega (arith, less)
]

smaller_by : (after before : ℕ) (more : Bool) → nat_lt after before ≡ more → after ≤ before → after + still more < before + 1
smaller_by after before true is fewer = let less = lt_from after before is in omega (arith, less)
smaller_by after before false is fewer = omega (arith, fewer)

-- what the loop does, by what its calls told
pub pass_smaller : (keep : ℕ → ℕ) (names : List (List ℕ)) (types : List (List Told)) (known after : Known) (before left : ℕ) (more : Bool) → more ≡ true →
    after ≡ settle_below keep names types known (length types) → before ≡ open_count known → left ≡ open_count after →
    open_count after + still (nat_lt left before) < open_count known + still more
pass_smaller keep names types known after before left more is after_is before_is left_is =
    let fewer = subst (λ one. open_count one ≤ open_count known) (sym after_is) (pass_fewer keep names types known (length types)) in
    rw (is, before_is, left_is) (smaller_by (open_count after) (open_count known) (nat_lt (open_count after) (open_count known)) refl fewer)

pub pass_grown : (keep : ℕ → ℕ) (names : List (List ℕ)) (types : List (List Told)) (known after : Known) →
    after ≡ settle_below keep names types known (length types) → IsGrown keep names types known → IsGrown keep names types after
pass_grown keep names types known after after_is grown =
    subst (IsGrown keep names types) (sym after_is) (all_grown keep names types known (length types) grown)

pub pass_closes : (keep : ℕ → ℕ) (names : List (List ℕ)) (types : List (List Told)) (known after : Known) (before left : ℕ) →
    after ≡ settle_below keep names types known (length types) → before ≡ open_count known → left ≡ open_count after →
    IsGrown keep names types known → nat_lt left before ≡ false → IsClosed keep names types after
pass_closes keep names types known after before left after_is before_is left_is grown more =
    let count_is = left_is ∙ ap open_count after_is in
    subst (IsClosed keep names types) (sym after_is)
    (pass_closed keep names types known grown (sym (ap (λ one. nat_lt one (open_count known)) count_is) ∙ (sym (ap (nat_lt left) before_is) ∙ more)))
