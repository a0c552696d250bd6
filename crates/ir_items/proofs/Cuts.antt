-- The walk over the segments of a list of nodes.
use Rattle.std.proofs.Common.{◌≡◌, ℕ, zero, suc, ◌+◌, Bool, true, false, List, [], ◌∷◌, take, drop, refl, cond, add-one}
use Rattle.std.proofs.lemmas.List.{drop-drop}
use Rattle.ir_read.specs.declared.grammar.Rule.{Rule}
use Rattle.ir_read.specs.Node.{Told}
use Rattle.ir_items.specs.declared.segment.Cut.{Cut}
use Rattle.ir_items.specs.Segment.{Split, begins, rest_len, segments_of, split_behind, split_by}

-- the split by its length
abbrev split_at : Cut → List Told → ℕ → Split
split_at cut nodes n = record { rest = take n nodes; behind = segments_of cut (drop n nodes) }

split_more : (cut : Cut) (node : Told) (nodes : List Told) (n : ℕ) (here : Bool) → split_behind cut node.rule nodes ≡ split_at cut nodes n →
    split_by here node (split_behind cut node.rule nodes) ≡ split_at cut (node ∷ nodes) (cond here zero (suc n))
split_more cut node nodes n true is = rw is refl
split_more cut node nodes n false is = rw is refl

pub split_is : (cut : Cut) (previous : Rule) (nodes : List Told) →
    split_behind cut previous nodes ≡ split_at cut nodes (rest_len cut previous nodes)
split_is cut previous [] = refl
split_is cut previous (node ∷ nodes) = split_more cut node nodes _ (begins cut previous node.rule) (split_is cut node.rule nodes)

drop_more : (nodes : List Told) (start n : ℕ) (first : Told) (behind : List Told) → drop start nodes ≡ first ∷ behind →
    drop n behind ≡ drop (start + (n + 1)) nodes
drop_more nodes start n first behind is = rw (← drop-drop (n + 1) start nodes, is, add-one) refl

-- the first segment of what is left from a place on
pub segments_from : (cut : Cut) (nodes : List Told) (start n : ℕ) (first : Told) (behind : List Told) →
    drop start nodes ≡ first ∷ behind → n ≡ rest_len cut first.rule behind →
    segments_of cut (drop start nodes) ≡ record { first = first; rest = take n behind } ∷ segments_of cut (drop (start + (n + 1)) nodes)
segments_from cut nodes start n first behind is len =
    rw (is, split_is cut first.rule behind, ← len, ← drop_more nodes start n first behind is) refl
