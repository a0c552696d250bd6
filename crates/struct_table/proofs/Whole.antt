-- Where each name is there and no struct holds itself, each struct takes something: else there were a struct that takes
-- nothing, which holds another one that takes nothing, and so on, and they would come to a circle.
use Rattle.std.proofs.Common.{◌≡◌, ◌⊎◌, inl, inr, ◌∙◌, ℕ, zero, suc, ◌+◌, ◌≤◌, ◌<◌, Bool, true, false, ◌&&◌, is_some, List, [], ◌∷◌, ◌++◌, length, get_or, set, replicate, bytes_eq, position, Option, Some, None, refl, sym, subst, arith, length-append, if◌then◌else◌}
use Rattle.std.proofs.lemmas.Bool.{cases_Bool, false≢true}
use Rattle.std.proofs.lemmas.List.{length-set}
use Rattle.std.proofs.lemmas.Bool.Decides.{nat_tests}
use Rattle.std.proofs.lemmas.Grind.{common_steps}
use Rattle.ir_read.specs.declared.terminal.Terminal.{Terminal}
use Rattle.ir_read.specs.declared.terminal.Terminal.TheVariants as t
use Rattle.ir_read.specs.Name.{name_of}
use Rattle.ir_read.specs.Node.{Told}
use Rattle.ir_layout.specs.declared.extent.Extent.{Extent}
use Rattle.ir_layout.specs.Walk.{extent_by}
use Rattle.ir_items.specs.declared.item.ItemForm.{ItemForm}
use Rattle.ir_items.specs.declared.item.ItemForm.TheVariants as forms
use Rattle.ir_items.specs.Item.{form_of, value_of}
use Rattle.ir_items.specs.Segment.{Segment}
use Rattle.std.specs.List.{list_any}
use Rattle.struct_table.specs.declared.named.NamedStructs.{NamedStructs}
use Rattle.struct_table.specs.Named.{named_from, none_named, text_of, types_with, with_form, with_struct}
use Rattle.struct_table.specs.StructTable.{structs_of}
use Rattle.struct_table.specs.Graph.{and_number, held, holds_itself, holds_of, number_by, numbers_from, reached}
use Rattle.struct_table.specs.Laws.{are_named, is_named}
use Rattle.struct_table.specs.Rounds.{are_ready, extent_at, extents_in, is_ready_by, ready_from, settled}
use Rattle.struct_table.specs.Settling.{open_count, settle_below}
use Rattle.struct_table.proofs.Growth.{IsClosed, IsGrown, all_grown, grown_settled, none_grown, pass_settles, stuck_closed}
use Rattle.struct_table.proofs.Reaching.{Among, among_back, among_first, among_front, and_cases, reached_first, reached_next, reached_within}
use Rattle.struct_table.proofs.Rising.{Known, get, next_at, none_some}
use Rattle.struct_table.proofs.Searches.{Marked, length_replicate, none_marked, set_new, unmarked, unmarked_none, unmarked_set}
use Rattle.struct_table.proofs.Settledness.{held_is, holds_len}

-- ---- nothing more can be settled

record Ended (keep : ℕ → ℕ) (names : List (List ℕ)) (types : List (List Told)) : Type 0 where
  pub known : Known
  pub grown : IsGrown keep names types known
  pub closed : IsClosed keep names types known

ended_in : (keep : ℕ → ℕ) (names : List (List ℕ)) (types : List (List Told)) (passes : ℕ) (known : Known) → IsGrown keep names types known →
    open_count known ≤ passes → Ended keep names types
ended_in keep names types zero known grown within = elim (pass_settles keep names types known (length types)) [
  | inl all ↦ record { known = known; grown = grown; closed = stuck_closed keep names types known grown all.1 }
  | inr less ↦ absurd (omega (arith, less, within))
]
ended_in keep names types (suc passes) known grown within = elim (pass_settles keep names types known (length types)) [
  | inl all ↦ record { known = known; grown = grown; closed = stuck_closed keep names types known grown all.1 }
  | inr less ↦
      ended_in keep names types passes (settle_below keep names types known (length types)) (all_grown keep names types known (length types) grown)
      (omega (arith, less, within))
]

settled_closed : (keep : ℕ → ℕ) (names : List (List ℕ)) (types : List (List Told)) → IsClosed keep names types (settled keep names types)
settled_closed keep names types =
    let grown = none_grown keep names types in
    let start : Known = replicate (length types) None in
    let level : open_count start ≤ open_count start = omega arith in
    let end = ended_in keep names types (open_count start) start grown level in
    subst (IsClosed keep names types) (grown_settled keep names types end.known end.grown end.closed) end.closed

-- ---- one that takes nothing holds another

record Lacks (names : List (List ℕ)) (known : Known) (place : Option ℕ) : Type 0 where
  pub number : ℕ
  pub place_is : place ≡ Some number
  pub unknown : get known number ≡ None

none_from : (found : Option Extent) → is_some found ≡ false → found ≡ None
none_from None is = refl
none_from (Some extent) is = absurd (false≢true (sym is))

lacks_at : (names : List (List ℕ)) (known : Known) (place : Option ℕ) → is_some (extent_at known place) ≡ false → is_some place ≡ true → Lacks names known place
lacks_at names known None is named = absurd (false≢true named)
lacks_at names known (Some number) is named = record { number = number; place_is = refl; unknown = none_from (get known number) is }

lacks_node : (names : List (List ℕ)) (known : Known) (terminal : Terminal) (text : List ℕ) → is_ready_by terminal names known text ≡ false →
    is_named terminal names text ≡ true → Lacks names known (number_by terminal names text)
lacks_node names known t.Local text is named = lacks_at names known (position (bytes_eq (name_of t.Local text)) names) is named
lacks_node names known _ text is named = absurd (false≢true (sym is))

place_within : {X : Type 0} (p : X → Bool) (xs : List X) (place : ℕ) → position p xs ≡ Some place → place < length xs
place_within p xs place is = grind (arith, common_steps, nat_tests)

number_within : (names : List (List ℕ)) (terminal : Terminal) (text : List ℕ) (number : ℕ) → number_by terminal names text ≡ Some number → number < length names
number_within names t.Local text number is = place_within (bytes_eq (name_of t.Local text)) names number is
number_within names _ text number is = cc

and_number_keeps : (done : List ℕ) (place : Option ℕ) (number : ℕ) → Among done number → Among (and_number done place) number
and_number_keeps done None number is = is
and_number_keeps done (Some place) number is = among_front done (place ∷ []) number is

and_number_puts : (done : List ℕ) (place : Option ℕ) (number : ℕ) → place ≡ Some number → Among (and_number done place) number
and_number_puts done place number is = subst (λ it. Among (and_number done it) number) (sym is) (among_back done (number ∷ []) number (among_first number []))

numbers_keep : (names : List (List ℕ)) (done : List ℕ) (nodes : List Told) (number : ℕ) → Among done number → Among (numbers_from names done nodes) number
numbers_keep names done [] number is = is
numbers_keep names done (node ∷ nodes) number is =
    numbers_keep names (and_number done (number_by node.terminal names node.text)) nodes number
    (and_number_keeps done (number_by node.terminal names node.text) number is)

record HoldsUnknown (names : List (List ℕ)) (known : Known) (numbers : List ℕ) : Type 0 where
  pub number : ℕ
  pub among : Among numbers number
  pub unknown : get known number ≡ None
  pub within : number < length names

unready : (names : List (List ℕ)) (known : Known) (before : Bool) (nodes : List Told) (done : List ℕ) → before ≡ true → ready_from names known before nodes ≡ false →
    are_named names nodes ≡ true → HoldsUnknown names known (numbers_from names done nodes)
unready names known before [] done first is named = absurd (false≢true (sym is ∙ first))
unready names known before (node ∷ nodes) done first is named =
    let parts = and_cases (is_named node.terminal names node.text) (are_named names nodes) named in
    elim (cases_Bool (is_ready_by node.terminal names known node.text)) [
      | inl ready ↦
          unready names known (before && is_ready_by node.terminal names known node.text) nodes (and_number done (number_by node.terminal names node.text))
          (rw (first, ready) refl) is parts.1
      | inr waits ↦
          let lacks = lacks_node names known node.terminal node.text waits parts.0 in
          record {
            number = lacks.number;
            among = numbers_keep names (and_number done (number_by node.terminal names node.text)) nodes lacks.number
                (and_number_puts done (number_by node.terminal names node.text) lacks.number lacks.place_is);
            unknown = lacks.unknown;
            within = number_within names node.terminal node.text lacks.number lacks.place_is;
          }
    ]

-- ---- and so on

record Chain (keep : ℕ → ℕ) (names : List (List ℕ)) (types : List (List Told)) (last : ℕ) (marks : List Bool) : Type 0 where
  pub within : last < length types
  pub unknown : get (settled keep names types) last ≡ None
  pub len : length marks ≡ length types
  pub depth : ℕ
  pub counted : suc depth + unmarked marks ≡ length types
  pub leads : (number : ℕ) → Marked marks number → (number ≡ last) ⊎ Among (reached (holds_of names types) number depth) last

record IsWhole (names : List (List ℕ)) (types : List (List Told)) : Type 0 where
  pub len : length names ≡ length types
  pub named : (by : ℕ) → are_named names (get_or types by []) ≡ true
  pub free : (by : ℕ) → holds_itself (holds_of names types) by ≡ false

next_link : (keep : ℕ → ℕ) (names : List (List ℕ)) (types : List (List Told)) → IsWhole names types → (number : ℕ) → number < length types →
    get (settled keep names types) number ≡ None → HoldsUnknown names (settled keep names types) (held (holds_of names types) number)
next_link keep names types whole number within unknown =
    let known = settled keep names types in
    let nodes = get_or types number [] in
    subst (HoldsUnknown names known) (sym (held_is names types number)) (elim (cases_Bool (are_ready names known nodes)) [
      | inl ready ↦
          let found = extent_by keep (extents_in names known) nodes in
          none_some found (sym unknown ∙ settled_closed keep names types number found (next_at keep names known types number within ∙ (rw ready refl)))
      | inr waits ↦ unready names known true nodes [] refl waits (whole.named number)
    ])

unmarked_at : (count number : ℕ) → get_or (replicate count false) number false ≡ false
unmarked_at zero number = refl
unmarked_at (suc count) zero = refl
unmarked_at (suc count) (suc number) = unmarked_at count number

first_chain : (keep : ℕ → ℕ) (names : List (List ℕ)) (types : List (List Told)) (number : ℕ) → number < length types → get (settled keep names types) number ≡ None →
    Chain keep names types number (set (replicate (length types) false) number true)
first_chain keep names types number within unknown =
    let bare : List Bool = replicate (length types) false in
    let len = length_replicate (length types) false in
    let inside : number < length bare = subst (λ count. number < count) (sym len) within in
    let count = unmarked_set bare number inside (unmarked_at (length types) number) in
    let all = unmarked_none (length types) in
    record {
      within = within;
      unknown = unknown;
      len = length-set bare number true ∙ len;
      depth = 0;
      counted = omega (arith, count, all);
      leads = λ other is. elim (set_new bare number other is) [
        | inl had ↦ absurd (none_marked (length types) other had)
        | inr same ↦ inl same
      ];
    }

link_leads : (holds : List (List ℕ)) (depth number last next : ℕ) → (number ≡ last) ⊎ Among (reached holds number depth) last → Among (held holds last) next →
    Among (reached holds number (suc depth)) next
link_leads holds depth number last next (inl same) held_it =
    reached_first holds number depth next (subst (λ it. Among (held holds it) next) (sym same) held_it)
link_leads holds depth number last next (inr there) held_it = reached_next holds number depth last next there held_it

-- the next one stands in the chain: a circle
link_back : (keep : ℕ → ℕ) (names : List (List ℕ)) (types : List (List Told)) → IsWhole names types → (last : ℕ) (marks : List Bool) → Chain keep names types last marks →
    (next : ℕ) → Among (held (holds_of names types) last) next → Marked marks next → ⊥
link_back keep names types whole last marks chain next held_it marked =
    let holds = holds_of names types in
    let counted = chain.counted in
    let len = holds_len names types in
    let deep = link_leads holds chain.depth next last next (chain.leads next marked) held_it in
    false≢true (sym (whole.free next) ∙ reached_within holds next (suc chain.depth) (length holds) next (omega (arith, counted, len)) deep)

link_on : (keep : ℕ → ℕ) (names : List (List ℕ)) (types : List (List Told)) (last : ℕ) (marks : List Bool) → Chain keep names types last marks →
    (next : ℕ) → next < length types → get (settled keep names types) next ≡ None → Among (held (holds_of names types) last) next → get_or marks next false ≡ false →
    Chain keep names types next (set marks next true)
link_on keep names types last marks chain next within unknown held_it free =
    let holds = holds_of names types in
    let inside = subst (λ count. next < count) (sym chain.len) within in
    let count = unmarked_set marks next inside free in
    let counted = chain.counted in
    record {
      within = within;
      unknown = unknown;
      len = length-set marks next true ∙ chain.len;
      depth = suc chain.depth;
      counted = omega (arith, counted, count);
      leads = λ number is. elim (set_new marks next number is) [
        | inl had ↦ inr (link_leads holds chain.depth number last next (chain.leads number had) held_it)
        | inr same ↦ inl same
      ];
    }

no_chain : (keep : ℕ → ℕ) (names : List (List ℕ)) (types : List (List Told)) → IsWhole names types → (left last : ℕ) (marks : List Bool) →
    Chain keep names types last marks → unmarked marks ≤ left → ⊥
no_chain keep names types whole zero last marks chain within =
    let link = next_link keep names types whole last chain.within chain.unknown in
    let inside = subst (λ count. link.number < count) whole.len link.within in
    elim (cases_Bool (get_or marks link.number false)) [
      | inl marked ↦ link_back keep names types whole last marks chain link.number link.among marked
      | inr free ↦
          let count = unmarked_set marks link.number (subst (λ count. link.number < count) (sym chain.len) inside) free in
          omega (arith, count, within)
    ]
no_chain keep names types whole (suc left) last marks chain within =
    let link = next_link keep names types whole last chain.within chain.unknown in
    let inside = subst (λ count. link.number < count) whole.len link.within in
    elim (cases_Bool (get_or marks link.number false)) [
      | inl marked ↦ link_back keep names types whole last marks chain link.number link.among marked
      | inr free ↦
          let count = unmarked_set marks link.number (subst (λ count. link.number < count) (sym chain.len) inside) free in
          no_chain keep names types whole left link.number (set marks link.number true)
          (link_on keep names types last marks chain link.number inside link.unknown link.among free) (omega (arith, count, within))
    ]

takes : (keep : ℕ → ℕ) (names : List (List ℕ)) (types : List (List Told)) → IsWhole names types → (number : ℕ) → number < length types →
    is_some (get (settled keep names types) number) ≡ true
takes keep names types whole number within = elim (cases_Bool (is_some (get (settled keep names types) number))) [
  | inl is ↦ is
  | inr is ↦
      let marks = set (replicate (length types) false) number true in
      let level : unmarked marks ≤ unmarked marks = omega arith in
      absurd (no_chain keep names types whole (unmarked marks) number marks
      (first_chain keep names types number within (none_from (get (settled keep names types) number) is)) level)
]

pub whole_takes : (keep : ℕ → ℕ) (names : List (List ℕ)) (types : List (List Told)) → length names ≡ length types →
    ((by : ℕ) → are_named names (get_or types by []) ≡ true) → ((by : ℕ) → holds_itself (holds_of names types) by ≡ false) →
    (number : ℕ) → number < length types → is_some (get_or (settled keep names types) number None) ≡ true
whole_takes keep names types len named free = takes keep names types (record { len = len; named = named; free = free })

-- ---- each name has a type

any_step : {X : Type 0} (p : X → Bool) (x : X) (xs : List X) → is_some (position p xs) ≡ list_any p xs →
    is_some (position p (x ∷ xs)) ≡ list_any p (x ∷ xs)
any_step p x xs before = grind (arith, common_steps, nat_tests)

position_any : {X : Type 0} (p : X → Bool) (xs : List X) → is_some (position p xs) ≡ list_any p xs
position_any p [] = refl
position_any p (x ∷ xs) = any_step p x xs (position_any p xs)

len_by : (names : List (List ℕ)) (types : List (List Told)) (name : List ℕ) (nodes : List Told) (place : Option ℕ) (there : Bool) → is_some place ≡ there →
    length names ≡ length types → length (if there then names else names ++ name ∷ []) ≡ length (types_with types place nodes)
len_by names types name nodes None true is len = absurd (false≢true is)
len_by names types name nodes None false is len =
    let one = length-append names (name ∷ []) in
    let other = length-append types (nodes ∷ []) in
    omega (arith, one, other, len)
len_by names types name nodes (Some place) true is len = len
len_by names types name nodes (Some place) false is len = absurd (false≢true (sym is))

len_struct : (done : NamedStructs) (item : Segment) → length done.names ≡ length done.types → length (with_struct done item).names ≡ length (with_struct done item).types
len_struct done item len =
    let name = text_of item in
    len_by done.names done.types name (value_of item) (position (bytes_eq name) done.names) (list_any (bytes_eq name) done.names)
    (position_any (bytes_eq name) done.names) len

len_form : (form : ItemForm) (done : NamedStructs) (item : Segment) → length done.names ≡ length done.types → length (with_form form done item).names ≡ length (with_form form done item).types
len_form forms.Struct done item len = len_struct done item len
len_form _ done item len = len

len_from : (done : NamedStructs) (items : List Segment) → length done.names ≡ length done.types → length (named_from done items).names ≡ length (named_from done items).types
len_from done [] len = len
len_from done (item ∷ items) len = len_from (with_form (form_of item) done item) items (len_form (form_of item) done item len)

pub names_have_types : (items : List Segment) → length (structs_of items).names ≡ length (structs_of items).types
names_have_types items = len_from none_named items refl
