-- What holds of structs that take something.
use Rattle.std.proofs.Common.{◌≡◌, ◌⊎◌, inl, inr, ◌∙◌, ℕ, zero, suc, ◌<◌, Bool, true, false, ◌&&◌, nat_eq, nat_lt, is_some, List, [], ◌∷◌, ◌++◌, length, get_or, bytes_eq, position, Option, Some, None, refl, ap, sym, subst, append-nil, append_assoc}
use Rattle.std.proofs.lemmas.Bool.{cases_Bool, eqb-true, false≢true, ltb-false, ltb-true}
use Rattle.std.proofs.Math.ListN.{get_or-eq_default}
use Rattle.ir_read.specs.declared.terminal.Terminal.{Terminal}
use Rattle.ir_read.specs.declared.terminal.Terminal.TheVariants as t
use Rattle.ir_read.specs.Name.{name_of}
use Rattle.ir_read.specs.Node.{Told}
use Rattle.ir_items.specs.Segment.{Segment}
use Rattle.ir_layout.specs.declared.extent.Extent.{Extent}
use Rattle.ir_layout.specs.declared.extent.Overflow.{Overflow}
use Rattle.ir_layout.specs.declared.extent.Overflow.TheVariants as o
use Rattle.ir_layout.specs.Extent.{kept}
use Rattle.ir_layout.specs.Walk.{extent_by}
use Rattle.struct_table.specs.Graph.{and_number, held, held_by, holds_from, holds_itself, holds_of, number_by, numbers_from, numbers_in, reached}
use Rattle.struct_table.specs.Laws.{IsSettled}
use Rattle.struct_table.specs.Named.{named_in}
use Rattle.struct_table.specs.Rounds.{are_ready, extent_at, extents_in, is_ready_by, next_extent, ready_from, round_after, settled}
use Rattle.struct_table.specs.StructTable.{extent, structs_by, structs_of, type_named}
use Rattle.struct_table.proofs.Reaching.{Among, among_split, held_from, none_among, or_cases}
use Rattle.struct_table.proofs.Rising.{Known, get, length_round, next_at, none_get, none_some, ready_first, rounds_rise, some_same}

-- ---- a struct takes what its type takes

taken_by : (keep : ℕ → ℕ) (names : List (List ℕ)) (known : Known) (nodes : List Told) (found : Extent) → next_extent keep names known nodes ≡ Some found →
    found ≡ extent_by keep (extents_in names known) nodes
taken_by keep names known nodes found is = elim (cases_Bool (are_ready names known nodes)) [
  | inl ready ↦ sym (some_same (extent_by keep (extents_in names known) nodes) found (rw ready at is))
  | inr open_yet ↦ none_some found (rw open_yet at is)
]

known_within : (known : Known) (number : ℕ) (found : Extent) → get known number ≡ Some found → number < length known
known_within known number found is = elim (cases_Bool (nat_lt number (length known))) [
  | inl within ↦ ltb-true number (length known) within
  | inr outside ↦ none_some found (sym (get_or-eq_default known None (ltb-false number (length known) outside)) ∙ is)
]

settled_next : (keep : ℕ → ℕ) (names : List (List ℕ)) (types : List (List Told)) (rounds number : ℕ) (found : Extent) →
    get (round_after keep names types rounds) number ≡ Some found →
    next_extent keep names (round_after keep names types rounds) (get_or types number []) ≡ Some found
settled_next keep names types rounds number found is =
    let within = subst (λ count. number < count) (length_round keep names types rounds) (known_within (round_after keep names types rounds) number found is) in
    sym (next_at keep names (round_after keep names types rounds) types number within) ∙ rounds_rise keep names types rounds number found is

settled_taken : (keep : ℕ → ℕ) (names : List (List ℕ)) (types : List (List Told)) (number : ℕ) (found : Extent) → get (settled keep names types) number ≡ Some found →
    found ≡ extent_by keep (extents_in names (settled keep names types)) (get_or types number [])
settled_taken keep names types number found is =
    taken_by keep names (settled keep names types) (get_or types number []) found (settled_next keep names types (length types) number found is)

table_takes : (names : List (List ℕ)) (types : List (List Told)) (overflow : Overflow) (name : List ℕ) (number : ℕ) (found : Extent) →
    IsSettled (structs_by names types) overflow name number found →
    extent (structs_by names types) overflow name
    ≡ extent_by (kept overflow) (extent (structs_by names types) overflow) (type_named (structs_by names types) name)
table_takes names types o.Saturating name number found is =
    rw (is.number_is, is.extent_is) (settled_taken (kept o.Saturating) names types number found is.extent_is)
table_takes names types o.Wrapping name number found is =
    rw (is.number_is, is.extent_is) (settled_taken (kept o.Wrapping) names types number found is.extent_is)

pub structs_take : (items : List Segment) (overflow : Overflow) (name : List ℕ) (number : ℕ) (found : Extent) →
    IsSettled (structs_of items) overflow name number found →
    extent (structs_of items) overflow name
    ≡ extent_by (kept overflow) (extent (structs_of items) overflow) (type_named (structs_of items) name)
structs_take items overflow name number found is = table_takes (named_in items).names (named_in items).types overflow name number found is

-- ---- a struct that holds itself takes nothing

abbrev IsKnown : Known → ℕ → Type 0
IsKnown known number = is_some (get known number) ≡ true

known_place : (known : Known) (place : Option ℕ) → is_some (extent_at known place) ≡ true → (done : List ℕ) (number : ℕ) →
    Among (and_number done place) number → Among done number ⊎ IsKnown known number
known_place known None is done number among = inl among
known_place known (Some place) is done number among = elim (among_split done (place ∷ []) number among) [
  | inl had ↦ inl had
  | inr new ↦ elim (or_cases (nat_eq number place) false new) [
    | inl here ↦ inr (subst (IsKnown known) (sym (eqb-true number place here)) is)
    | inr never ↦ absurd (false≢true never)
  ]
]

known_node : (names : List (List ℕ)) (known : Known) (terminal : Terminal) (text : List ℕ) (done : List ℕ) (number : ℕ) →
    is_ready_by terminal names known text ≡ true → Among (and_number done (number_by terminal names text)) number → Among done number ⊎ IsKnown known number
known_node names known t.Local text done number ready among =
    known_place known (position (bytes_eq (name_of t.Local text)) names) ready done number among
known_node names known _ text done number ready among = inl among

known_numbers : (names : List (List ℕ)) (known : Known) (before : Bool) (nodes : List Told) (done : List ℕ) (number : ℕ) →
    ready_from names known before nodes ≡ true → Among (numbers_from names done nodes) number → Among done number ⊎ IsKnown known number
known_numbers names known before [] done number ready among = inl among
known_numbers names known before (node ∷ nodes) done number ready among =
    elim (known_numbers names known (before && is_ready_by node.terminal names known node.text) nodes (and_number done (number_by node.terminal names node.text)) number ready among) [
      | inl had ↦ known_node names known node.terminal node.text done number (ready_first names known before node nodes ready) had
      | inr is ↦ inr is
    ]

each_holds : List (List ℕ) → List (List Told) → List (List ℕ)
each_holds names [] = []
each_holds names (nodes ∷ types) = numbers_in names nodes ∷ each_holds names types

holds_apart : (names done : List (List ℕ)) (types : List (List Told)) → holds_from names done types ≡ done ++ each_holds names types
unfolding each_holds
holds_apart names done [] = sym (append-nil done)
holds_apart names done (nodes ∷ types) =
    holds_apart names (done ++ numbers_in names nodes ∷ []) types ∙ append_assoc done (numbers_in names nodes ∷ []) (each_holds names types)

get_each : (names : List (List ℕ)) (types : List (List Told)) (number : ℕ) → get_or (each_holds names types) number [] ≡ numbers_in names (get_or types number [])
unfolding each_holds
get_each names [] number = refl
get_each names (nodes ∷ types) zero = refl
get_each names (nodes ∷ types) (suc number) = get_each names types number

pub held_is : (names : List (List ℕ)) (types : List (List Told)) (number : ℕ) → held (holds_of names types) number ≡ numbers_in names (get_or types number [])
held_is names types number = ap (λ holds. get_or holds number []) (holds_apart names [] types) ∙ get_each names types number

length_each : (names : List (List ℕ)) (types : List (List Told)) → length (each_holds names types) ≡ length types
unfolding each_holds
length_each names [] = refl
length_each names (nodes ∷ types) = ap suc (length_each names types)

pub holds_len : (names : List (List ℕ)) (types : List (List Told)) → length (holds_of names types) ≡ length types
holds_len names types = ap length (holds_apart names [] types) ∙ length_each names types

known_ready : (keep : ℕ → ℕ) (names : List (List ℕ)) (known : Known) (nodes : List Told) → is_some (next_extent keep names known nodes) ≡ true →
    are_ready names known nodes ≡ true
known_ready keep names known nodes is = elim (cases_Bool (are_ready names known nodes)) [
  | inl ready ↦ ready
  | inr open_yet ↦ absurd (false≢true (rw open_yet at is))
]

some_is : (found : Option Extent) → is_some found ≡ true → (extent : Extent) × (found ≡ Some extent)
some_is None is = absurd (false≢true is)
some_is (Some extent) is = (extent, refl)

known_rises : (keep : ℕ → ℕ) (names : List (List ℕ)) (types : List (List Told)) (rounds number : ℕ) → IsKnown (round_after keep names types rounds) number →
    IsKnown (round_after keep names types (suc rounds)) number
known_rises keep names types rounds number is =
    let found = some_is (get (round_after keep names types rounds) number) is in
    ap is_some (rounds_rise keep names types rounds number found.0 found.1)

held_known : (keep : ℕ → ℕ) (names : List (List ℕ)) (types : List (List Told)) (rounds by number : ℕ) → IsKnown (round_after keep names types (suc rounds)) by →
    Among (held (holds_of names types) by) number → IsKnown (round_after keep names types rounds) number
held_known keep names types rounds by number is among =
    let known = round_after keep names types rounds in
    let found = some_is (get (round_after keep names types (suc rounds)) by) is in
    let within = subst (λ count. by < count) (length_round keep names types (suc rounds)) (known_within (round_after keep names types (suc rounds)) by found.0 found.1) in
    let ready = known_ready keep names known (get_or types by []) (ap is_some (sym (next_at keep names known types by within)) ∙ is) in
    elim (known_numbers names known true (get_or types by []) [] number ready (subst (λ numbers. Among numbers number) (held_is names types by) among)) [
      | inl never ↦ absurd (none_among number never)
      | inr there ↦ there
    ]

reached_known : (keep : ℕ → ℕ) (names : List (List ℕ)) (types : List (List Told)) (rounds start depth number : ℕ) →
    IsKnown (round_after keep names types (suc rounds)) start → Among (reached (holds_of names types) start depth) number →
    IsKnown (round_after keep names types rounds) number
reached_known keep names types rounds start zero number is among = absurd (none_among number among)
reached_known keep names types rounds start (suc depth) number is among =
    let holds = holds_of names types in
    elim (among_split (held holds start) (held_by holds (reached holds start depth)) number among) [
      | inl here ↦ held_known keep names types rounds start number is here
      | inr there ↦
          let found = held_from holds (reached holds start depth) number there in
          held_known keep names types rounds found.by number
          (known_rises keep names types rounds found.by (reached_known keep names types rounds start depth found.by is found.among)) found.directly
    ]

circle_unknown : (keep : ℕ → ℕ) (names : List (List ℕ)) (types : List (List Told)) (rounds number : ℕ) → holds_itself (holds_of names types) number ≡ true →
    IsKnown (round_after keep names types rounds) number → ⊥
circle_unknown keep names types zero number circle is =
    let found = some_is (get (round_after keep names types zero) number) is in none_get (length types) number found.0 found.1
circle_unknown keep names types (suc rounds) number circle is =
    circle_unknown keep names types rounds number circle
    (reached_known keep names types rounds number (length (holds_of names types)) number is circle)

pub none_is : (found : Option Extent) → (is_some found ≡ true → ⊥) → found ≡ None
none_is None never = refl
none_is (Some extent) never = absurd (never refl)

pub circles_take : (keep : ℕ → ℕ) (names : List (List ℕ)) (types : List (List Told)) (number : ℕ) → holds_itself (holds_of names types) number ≡ true →
    get_or (settled keep names types) number None ≡ None
circles_take keep names types number circle =
    none_is (get (settled keep names types) number) (circle_unknown keep names types (length types) number circle)
