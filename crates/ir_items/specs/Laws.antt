-- What the laws say of segments and phrases.
use Rattle.std.specs.Prelude.{◌≡◌, ℕ, zero, suc, Bool, true, false, List, [], ◌∷◌, ◌++◌, length}
use Rattle.std.specs.List.{AllByRecursion}
use Rattle.ir_read.specs.declared.grammar.Rule.{Rule}
use Rattle.ir_read.specs.Node.{Told}
use Rattle.ir_items.specs.declared.segment.Cut.{Cut}
use Rattle.ir_items.specs.Phrase.{depth_behind, is_mark, open_len}
use Rattle.ir_items.specs.Segment.{Segment, begins, is_items}

-- ---- segments

-- the nodes of segments, one behind the other
abbrev pub nodes_of : List Segment → List Told
nodes_of [] = []
nodes_of (segment ∷ segments) = segment.first ∷ (segment.rest ++ nodes_of segments)

-- nothing begins with these nodes, the first of which stands behind one that the rule took
abbrev pub IsInside : Cut → Rule → List Told → Type 0
IsInside cut previous [] = Unit {0}
IsInside cut previous (node ∷ nodes) = (begins cut previous node.rule ≡ false) × IsInside cut node.rule nodes

abbrev pub last_rule : Rule → List Told → Rule
last_rule rule [] = rule
last_rule rule (node ∷ nodes) = last_rule node.rule nodes

-- something begins with the first node of the next segment, if there is one
abbrev pub IsBegun : Cut → Rule → List Segment → Type 0
IsBegun cut previous [] = Unit {0}
IsBegun cut previous (segment ∷ segments) = begins cut previous segment.first.rule ≡ true

-- nothing begins within a segment, and something with each but the first
abbrev pub AreCut : Cut → List Segment → Type 0
AreCut cut [] = Unit {0}
AreCut cut (segment ∷ segments) =
    IsInside cut segment.first.rule segment.rest
    × IsBegun cut (last_rule segment.first.rule segment.rest) segments
    × AreCut cut segments

-- the rule of items took the first node and no other one
abbrev pub IsItem : Segment → Type 0
IsItem item = (is_items item.first.rule ≡ true) × AllByRecursion (λ node. is_items node.rule ≡ false) item.rest

-- ---- phrases

-- the nodes of phrases, one behind the other
abbrev pub joined : List (List Told) → List Told
joined [] = []
joined (phrase ∷ phrases) = phrase ++ joined phrases

abbrev pub kept_by : ℕ → Bool → Told → List Told → List Told
kept_by zero true node nodes = nodes
kept_by zero false node nodes = node ∷ nodes
kept_by (suc depth) mark node nodes = node ∷ nodes

-- all nodes but the marks that stand in no phrase, where so many phrases are open
abbrev pub without_marks : ℕ → List Told → List Told
without_marks depth [] = []
without_marks depth (node ∷ nodes) = kept_by depth (is_mark node) node (without_marks (depth_behind depth node) nodes)

-- a node that is no mark, and others for as long as something is open
abbrev pub IsPhrase : List Told → Type 0
IsPhrase [] = ⊥
IsPhrase (first ∷ behind) = (is_mark first ≡ false) × (open_len (depth_behind zero first) behind ≡ length behind)

-- how many phrases are open behind the nodes, where so many are before them
abbrev pub depth_at_end : ℕ → List Told → ℕ
depth_at_end depth [] = depth
depth_at_end depth (node ∷ nodes) = depth_at_end (depth_behind depth node) nodes

-- nodes that close all that they open
abbrev pub IsClosed : List Told → Type 0
IsClosed nodes = depth_at_end zero nodes ≡ zero

-- each phrase that another one follows is closed
abbrev pub AreClosed : List (List Told) → Type 0
AreClosed [] = Unit {0}
AreClosed (phrase ∷ []) = Unit {0}
AreClosed (phrase ∷ next ∷ phrases) = IsClosed phrase × AreClosed (next ∷ phrases)
