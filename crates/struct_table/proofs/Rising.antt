-- What is known of structs rises from round to round.
use Rattle.std.proofs.Common.{◌≡◌, inl, inr, ◌∙◌, ℕ, zero, suc, ◌+◌, ◌-◌, ◌≤◌, ◌<◌, Bool, true, false, ◌&&◌, is_some, List, [], ◌∷◌, length, get_or, replicate, bytes_eq, position, Option, Some, None, refl, ap, subst, arith}
use Rattle.std.proofs.lemmas.Bool.{cases_Bool, false≢true}
use Rattle.ir_read.specs.declared.terminal.Terminal.{Terminal}
use Rattle.ir_read.specs.declared.terminal.Terminal.TheVariants as t
use Rattle.ir_read.specs.Name.{name_of}
use Rattle.ir_read.specs.Node.{Told}
use Rattle.ir_layout.specs.declared.extent.Extent.{Extent}
use Rattle.ir_layout.specs.Walk.{Walk, begun, put, stepped, stepped_by, walked}
use Rattle.struct_table.specs.Rounds.{are_ready, extent_at, extent_in, extents_in, is_ready_by, next_extent, next_round, or_empty, ready_from, round_after}

abbrev pub Known : Type 0
Known = List (Option Extent)

abbrev pub get : Known → ℕ → Option Extent
get known number = get_or known number None

-- what is known stays known
abbrev pub Below : Known → Known → Type 0
Below known more = (number : ℕ) (extent : Extent) → get known number ≡ Some extent → get more number ≡ Some extent

pub none_some : {P : Type 0} (extent : Extent) → None ≡ Some extent → P
none_some extent is = cc

pub some_same : (one other : Extent) → Some one ≡ Some other → one ≡ other
some_same one other is = cc

-- ---- what is known of the names in a type

at_below : (known more : Known) → Below known more → (place : Option ℕ) (extent : Extent) → extent_at known place ≡ Some extent → extent_at more place ≡ Some extent
at_below known more below None extent is = is
at_below known more below (Some number) extent is = below number extent is

known_some : (found more : Option Extent) → ((extent : Extent) → found ≡ Some extent → more ≡ Some extent) → is_some found ≡ true → more ≡ found
known_some None more below is = absurd (false≢true is)
known_some (Some extent) more below is = below extent refl

same_at : (names : List (List ℕ)) (known more : Known) → Below known more → (text : List ℕ) → is_some (extent_in names known text) ≡ true → extent_in names more text ≡ extent_in names known text
same_at names known more below text is =
    known_some (extent_in names known text) (extent_in names more text) (at_below known more below (position (bytes_eq text) names)) is

ready_more : (names : List (List ℕ)) (known more : Known) → Below known more → (terminal : Terminal) (text : List ℕ) → is_ready_by terminal names known text ≡ true → is_ready_by terminal names more text ≡ true
ready_more names known more below t.Local text is = ap is_some (same_at names known more below (name_of t.Local text) is) ∙ is
ready_more names known more below _ text is = refl

same_step : (keep : ℕ → ℕ) (names : List (List ℕ)) (known more : Known) → Below known more → (terminal : Terminal) (text : List ℕ) (at : Walk) →
    is_ready_by terminal names known text ≡ true →
    stepped_by keep (extents_in names more) terminal text at ≡ stepped_by keep (extents_in names known) terminal text at
same_step keep names known more below t.Local text at is =
    ap (λ found. put keep (or_empty found) at) (same_at names known more below (name_of t.Local text) is)
same_step keep names known more below _ text at is = refl

pub both : (one other : Bool) → (one && other) ≡ true → (one ≡ true) × (other ≡ true)
both true true is = (refl, refl)
both true false is = absurd (false≢true is)
both false other is = absurd (false≢true is)

pub and_both : (one other : Bool) → one ≡ true → other ≡ true → (one && other) ≡ true
and_both one other first second = rw (first, second) refl

pub ready_before : (names : List (List ℕ)) (known : Known) (done : Bool) (nodes : List Told) → ready_from names known done nodes ≡ true → done ≡ true
ready_before names known done [] is = is
ready_before names known done (node ∷ nodes) is =
    (both done (is_ready_by node.terminal names known node.text) (ready_before names known (done && is_ready_by node.terminal names known node.text) nodes is)).0

pub ready_first : (names : List (List ℕ)) (known : Known) (done : Bool) (node : Told) (nodes : List Told) → ready_from names known done (node ∷ nodes) ≡ true →
    is_ready_by node.terminal names known node.text ≡ true
ready_first names known done node nodes is =
    (both done (is_ready_by node.terminal names known node.text) (ready_before names known (done && is_ready_by node.terminal names known node.text) nodes is)).1

ready_below : (names : List (List ℕ)) (known more : Known) → Below known more → (done later : Bool) (nodes : List Told) → later ≡ true →
    ready_from names known done nodes ≡ true → ready_from names more later nodes ≡ true
ready_below names known more below done later [] later_is is = later_is
ready_below names known more below done later (node ∷ nodes) later_is is =
    ready_below names known more below (done && is_ready_by node.terminal names known node.text) (later && is_ready_by node.terminal names more node.text) nodes
    (and_both later (is_ready_by node.terminal names more node.text) later_is (ready_more names known more below node.terminal node.text (ready_first names known done node nodes is))) is

walked_below : (keep : ℕ → ℕ) (names : List (List ℕ)) (known more : Known) → Below known more → (done : Bool) (nodes : List Told) (at : Walk) →
    ready_from names known done nodes ≡ true → walked keep (extents_in names more) nodes at ≡ walked keep (extents_in names known) nodes at
unfolding stepped
walked_below keep names known more below done [] at is = refl
walked_below keep names known more below done (node ∷ nodes) at is =
    ap (walked keep (extents_in names more) nodes) (same_step keep names known more below node.terminal node.text at (ready_first names known done node nodes is))
    ∙ walked_below keep names known more below (done && is_ready_by node.terminal names known node.text) nodes (stepped keep (extents_in names known) node at) is

-- ---- rounds

extent_below : (keep : ℕ → ℕ) (names : List (List ℕ)) (known more : Known) → Below known more → (nodes : List Told) (extent : Extent) →
    next_extent keep names known nodes ≡ Some extent → next_extent keep names more nodes ≡ Some extent
extent_below keep names known more below nodes extent is = elim (cases_Bool (are_ready names known nodes)) [
  | inl ready ↦
      rw (ready_below names known more below true true nodes refl ready)
      (ap (λ end. Some end.top.extent) (walked_below keep names known more below true nodes begun ready) ∙ (rw ready at is))
  | inr open_yet ↦ none_some extent (rw open_yet at is)
]

pub next_below : (keep : ℕ → ℕ) (names : List (List ℕ)) (known more : Known) → Below known more → (types : List (List Told)) →
    Below (next_round keep names known types) (next_round keep names more types)
next_below keep names known more below [] number extent is = is
next_below keep names known more below (nodes ∷ types) zero extent is = extent_below keep names known more below nodes extent is
next_below keep names known more below (nodes ∷ types) (suc number) extent is = next_below keep names known more below types number extent is

pub none_get : (count number : ℕ) (extent : Extent) → get (replicate count None) number ≡ Some extent → ⊥
none_get zero number extent is = none_some extent is
none_get (suc count) zero extent is = none_some extent is
none_get (suc count) (suc number) extent is = none_get count number extent is

pub rounds_rise : (keep : ℕ → ℕ) (names : List (List ℕ)) (types : List (List Told)) (rounds : ℕ) →
    Below (round_after keep names types rounds) (round_after keep names types (suc rounds))
rounds_rise keep names types zero number extent is = absurd (none_get (length types) number extent is)
rounds_rise keep names types (suc rounds) number extent is =
    next_below keep names (round_after keep names types rounds) (round_after keep names types (suc rounds)) (rounds_rise keep names types rounds) types number extent is

rounds_rise_by : (keep : ℕ → ℕ) (names : List (List ℕ)) (types : List (List Told)) (rounds more : ℕ) →
    Below (round_after keep names types rounds) (round_after keep names types (more + rounds))
rounds_rise_by keep names types rounds zero number extent is =
    let same : rounds ≡ 0 + rounds = omega arith in
    subst (λ end. get (round_after keep names types end) number ≡ Some extent) same is
rounds_rise_by keep names types rounds (suc more) number extent is =
    let last : suc (more + rounds) ≡ suc more + rounds = omega arith in
    subst (λ end. get (round_after keep names types end) number ≡ Some extent) last
    (rounds_rise keep names types (more + rounds) number extent (rounds_rise_by keep names types rounds more number extent is))

pub rounds_rise_to : (keep : ℕ → ℕ) (names : List (List ℕ)) (types : List (List Told)) (rounds end : ℕ) → rounds ≤ end →
    Below (round_after keep names types rounds) (round_after keep names types end)
rounds_rise_to keep names types rounds end within number extent is =
    let last : end - rounds + rounds ≡ end = omega (arith, within) in
    subst (λ end. get (round_after keep names types end) number ≡ Some extent) last (rounds_rise_by keep names types rounds (end - rounds) number extent is)

pub length_next : (keep : ℕ → ℕ) (names : List (List ℕ)) (known : Known) (types : List (List Told)) → length (next_round keep names known types) ≡ length types
length_next keep names known [] = refl
length_next keep names known (nodes ∷ types) = ap suc (length_next keep names known types)

pub length_replicate : {A : Type 0} (count : ℕ) (one : A) → length (replicate count one) ≡ count
length_replicate zero one = refl
length_replicate (suc count) one = ap suc (length_replicate count one)

pub length_round : (keep : ℕ → ℕ) (names : List (List ℕ)) (types : List (List Told)) (rounds : ℕ) → length (round_after keep names types rounds) ≡ length types
length_round keep names types zero = length_replicate (length types) None
length_round keep names types (suc rounds) = length_next keep names (round_after keep names types rounds) types

pub next_at : (keep : ℕ → ℕ) (names : List (List ℕ)) (known : Known) (types : List (List Told)) (number : ℕ) → number < length types →
    get (next_round keep names known types) number ≡ next_extent keep names known (get_or types number [])
next_at keep names known [] number within = absurd (omega (arith, within))
next_at keep names known (nodes ∷ types) zero within = refl
next_at keep names known (nodes ∷ types) (suc number) within = next_at keep names known types number (omega (arith, within))
