-- Segments are the nodes that they are cut from.
use Rattle.std.proofs.Common.{◌≡◌, ℕ, Bool, true, false, List, [], ◌∷◌, ◌++◌, Some, ap, refl, subst, sym}
use Rattle.std.specs.List.{AllByRecursion}
use Rattle.ir_read.specs.declared.grammar.Rule.{Rule}
use Rattle.ir_read.specs.declared.grammar.Rule.TheVariants as r
use Rattle.ir_read.specs.declared.terminal.Terminal.{Terminal}
use Rattle.ir_read.specs.declared.terminal.Terminal.TheVariants as t
use Rattle.ir_read.specs.Grammar.{otherwise, row}
use Rattle.ir_read.specs.Laws.{Parses, Nothing, Takes, Stands, Reads}
use Rattle.ir_read.specs.Node.{Lexeme, Told, is_kept, told}
use Rattle.ir_items.specs.declared.segment.Cut.{Cut}
use Rattle.ir_items.specs.declared.segment.Cut.TheVariants as cuts
use Rattle.ir_items.specs.Laws.{AreCut, IsBegun, IsInside, IsItem, last_rule, nodes_of}
use Rattle.ir_items.specs.Segment.{Segment, Split, begins, is_items, segments_of, split_behind, split_by}

-- what is left of a segment and those behind it are these nodes
record IsSplit (cut : Cut) (previous : Rule) (nodes : List Told) (split : Split) : Type 0 where
  whole : split.rest ++ nodes_of split.behind ≡ nodes
  inside : IsInside cut previous split.rest
  begun : IsBegun cut (last_rule previous split.rest) split.behind
  are_cut : AreCut cut split.behind

split_more : (cut : Cut) (previous : Rule) (node : Told) (nodes : List Told) (split : Split) (here : Bool) → begins cut previous node.rule ≡ here →
    IsSplit cut node.rule nodes split → IsSplit cut previous (node ∷ nodes) (split_by here node split)
split_more cut previous node nodes split true is more = record {
  whole = ap (λ rest. node ∷ rest) more.whole;
  inside = tt;
  begun = is;
  are_cut = (more.inside, more.begun, more.are_cut);
}
split_more cut previous node nodes split false is more = record {
  whole = ap (λ rest. node ∷ rest) more.whole;
  inside = (is, more.inside);
  begun = more.begun;
  are_cut = more.are_cut;
}

is_split : (cut : Cut) (previous : Rule) (nodes : List Told) → IsSplit cut previous nodes (split_behind cut previous nodes)
is_split cut previous [] = record { whole = refl; inside = tt; begun = tt; are_cut = tt }
is_split cut previous (node ∷ nodes) =
    split_more cut previous node nodes _ (begins cut previous node.rule) refl (is_split cut node.rule nodes)

pub segments_whole : (cut : Cut) (nodes : List Told) → nodes_of (segments_of cut nodes) ≡ nodes
segments_whole cut [] = refl
segments_whole cut (node ∷ nodes) = ap (λ rest. node ∷ rest) (is_split cut node.rule nodes).whole

pub segments_parted : (cut : Cut) (nodes : List Told) → AreCut cut (segments_of cut nodes)
segments_parted cut [] = tt
segments_parted cut (node ∷ nodes) =
    let split = is_split cut node.rule nodes in (split.inside, split.begun, split.are_cut)

-- ---- items

no_items : (previous : Rule) (nodes : List Told) → IsInside cuts.Items previous nodes → AllByRecursion (λ node. is_items node.rule ≡ false) nodes
unfolding begins
no_items previous [] inside = tt
no_items previous (node ∷ nodes) inside = (inside.0, no_items node.rule nodes inside.1)

abbrev FirstIsItem : List Segment → Type 0
FirstIsItem [] = Unit {0}
FirstIsItem (item ∷ items) = is_items item.first.rule ≡ true

next_is_item : (previous : Rule) (items : List Segment) → IsBegun cuts.Items previous items → FirstIsItem items
unfolding begins
next_is_item previous [] begun = tt
next_is_item previous (item ∷ items) begun = begun

all_items : (items : List Segment) → FirstIsItem items → AreCut cuts.Items items → AllByRecursion IsItem items
all_items [] first are = tt
all_items (item ∷ items) first are =
    ((first, no_items item.first.rule item.rest are.0), all_items items (next_is_item _ items are.1) are.2)

abbrev BeginsItems : List Told → Type 0
BeginsItems [] = Unit {0}
BeginsItems (node ∷ nodes) = is_items node.rule ≡ true

nothing_left : (wants : List Rule) (tokens : List Lexeme) (nodes : List Told) → Parses wants tokens nodes → wants ≡ [] → BeginsItems nodes
nothing_left _ _ _ Nothing none = tt
nothing_left _ _ _ (Takes is parsed) none = cc
nothing_left _ _ _ (Stands is other parsed) none = cc

-- what the rule keeps of a token that it takes
begins_with : (terminal : Terminal) (text : List ℕ) (line : ℕ) (more : List Rule) (tokens : List Lexeme) (nodes : List Told) →
    row r.Items terminal ≡ Some more → Parses (more ++ []) tokens nodes →
    BeginsItems (told r.Items (record { terminal = terminal; text = text; line = line }) ++ nodes)
unfolding row told is_kept
begins_with t.End text line more tokens nodes is parsed =
    let none : more ≡ [] = cc in nothing_left (more ++ []) tokens nodes parsed (rw none refl)
begins_with t.Comma text line more tokens nodes is parsed = cc
begins_with _ text line more tokens nodes is parsed = refl

stands_for_none : (more : List Rule) → otherwise r.Items ≡ Some more → ⊥
unfolding otherwise
stands_for_none more is = cc

-- the rule of items takes the first node of a module
parsed_begins : (wants : List Rule) (tokens : List Lexeme) (nodes : List Told) → Parses wants tokens nodes → wants ≡ r.Items ∷ [] →
    BeginsItems nodes
parsed_begins _ _ _ Nothing are = cc
parsed_begins _ _ _ (Takes {rule} {wants} {more} {token} {tokens} {nodes} is parsed) are =
    let rule_is : rule ≡ r.Items = cc in
    let none : wants ≡ [] = cc in
    subst (λ by. BeginsItems (told by token ++ nodes)) (sym rule_is)
    (begins_with token.terminal token.text token.line more tokens nodes
    (subst (λ by. row by token.terminal ≡ Some more) rule_is is)
    (subst (λ rest. Parses (more ++ rest) tokens nodes) none parsed))
parsed_begins _ _ _ (Stands {rule} {wants} {more} {token} {tokens} {nodes} is other parsed) are =
    let rule_is : rule ≡ r.Items = cc in
    absurd (stands_for_none more (subst (λ by. otherwise by ≡ Some more) rule_is other))

pub items_are : (tokens : List Lexeme) (nodes : List Told) → Reads tokens nodes → AllByRecursion IsItem (segments_of cuts.Items nodes)
items_are tokens [] reads = tt
items_are tokens (node ∷ nodes) reads =
    all_items (segments_of cuts.Items (node ∷ nodes)) (parsed_begins (r.Items ∷ []) reads.bare (node ∷ nodes) reads.parsed refl)
    (segments_parted cuts.Items (node ∷ nodes))
