-- The walk over the phrases of a list of nodes.
use Rattle.std.proofs.Common.{◌≡◌, ℕ, zero, suc, ◌+◌, Bool, true, false, List, [], ◌∷◌, length, take, drop, refl, sym, ◌∙◌, ap, cond, add-one}
use Rattle.std.specs.List.{prefix_len}
use Rattle.std.proofs.lemmas.List.{drop-drop, nil_from_length}
use Rattle.ir_read.specs.Node.{Told}
use Rattle.ir_items.specs.Phrase.{depth_behind, is_mark, open_len, phrased, phrased_by, phrases_of}

-- what is left of the open phrases, by its length
pub phrased_is : (depth : ℕ) (nodes : List Told) →
    phrased depth nodes
    ≡ record { rest = take (open_len depth nodes) nodes; phrases = phrases_of (drop (open_len depth nodes) nodes) }
phrased_is zero [] = refl
phrased_is (suc depth) [] = refl
phrased_is zero (node ∷ nodes) = none_open (is_mark node) (depth_behind zero node) node nodes
  where
    none_open : (mark : Bool) (depth : ℕ) (node : Told) (nodes : List Told) →
        phrased_by zero mark node (phrased depth nodes)
        ≡ record { rest = []; phrases = (phrased_by zero mark node (phrased depth nodes)).phrases }
    none_open true depth node nodes = refl
    none_open false depth node nodes = refl
phrased_is (suc depth) (node ∷ nodes) = rw (phrased_is (depth_behind (suc depth) node) nodes) refl

pub mark_opens_none : (node : Told) → is_mark node ≡ true → depth_behind zero node ≡ zero
unfolding depth_behind
mark_opens_none node is = rw is refl

drop_one_more : (node : Told) (nodes : List Told) (n : ℕ) → drop n nodes ≡ drop (1 + n) (node ∷ nodes)
drop_one_more node nodes n = drop-drop n 1 (node ∷ nodes)

behind_one : (mark : Bool) (node : Told) (nodes : List Told) (n : ℕ) → is_mark node ≡ mark →
    phrases_of nodes ≡ phrases_of (drop n nodes) →
    (phrased_by 0 mark node (phrased (depth_behind 0 node) nodes)).phrases ≡ phrases_of (drop (cond mark (1 + n) 0) (node ∷ nodes))
behind_one true node nodes n is more = rw (mark_opens_none node is, ← drop_one_more node nodes n) more
behind_one false node nodes n is more =
    ap (λ mark. (phrased_by 0 mark node (phrased (depth_behind 0 node) nodes)).phrases) (sym is)

-- marks in front change nothing
pub behind_marks : (nodes : List Told) → phrases_of nodes ≡ phrases_of (drop (prefix_len is_mark nodes) nodes)
behind_marks [] = refl
behind_marks (node ∷ nodes) = behind_one (is_mark node) node nodes (prefix_len is_mark nodes) refl (behind_marks nodes)

unmarked_one : (mark : Bool) (node : Told) (nodes : List Told) (n : ℕ) (first : Told) (behind : List Told) → is_mark node ≡ mark →
    (drop n nodes ≡ first ∷ behind → is_mark first ≡ false) →
    drop (cond mark (1 + n) 0) (node ∷ nodes) ≡ first ∷ behind → is_mark first ≡ false
unmarked_one true node nodes n first behind marked more is = more (drop_one_more node nodes n ∙ is)
unmarked_one false node nodes n first behind marked more is = let same : node ≡ first = cc in rw (← same) marked

unmarked : (nodes : List Told) (first : Told) (behind : List Told) →
    drop (prefix_len is_mark nodes) nodes ≡ first ∷ behind → is_mark first ≡ false
unmarked [] first behind is = cc
unmarked (node ∷ nodes) first behind is =
    unmarked_one (is_mark node) node nodes (prefix_len is_mark nodes) first behind refl (unmarked nodes first behind) is

-- where marks alone are left
pub no_phrases : (nodes left : List Told) (marks : ℕ) → marks ≡ prefix_len is_mark nodes → left ≡ drop marks nodes → length left ≡ 0 →
    phrases_of nodes ≡ []
no_phrases nodes left marks counted is none =
    let here : drop (prefix_len is_mark nodes) nodes ≡ [] = rw (← counted) (sym is ∙ nil_from_length left none) in
    behind_marks nodes ∙ ap phrases_of here

first_phrase : (first : Told) (behind : List Told) (n : ℕ) → is_mark first ≡ false → n ≡ open_len (depth_behind zero first) behind →
    phrases_of (first ∷ behind) ≡ (first ∷ take n behind) ∷ phrases_of (drop n behind)
first_phrase first behind n is len =
    ap (λ mark. (phrased_by 0 mark first (phrased (depth_behind zero first) behind)).phrases) is
    ∙ (rw (phrased_is (depth_behind zero first) behind, ← len) refl)

-- the first phrase of what is left from a place on
pub phrases_from : (nodes : List Told) (start marks n : ℕ) (first : Told) (behind : List Told) →
    marks ≡ prefix_len is_mark (drop start nodes) → drop marks (drop start nodes) ≡ first ∷ behind →
    n ≡ open_len (depth_behind zero first) behind →
    phrases_of (drop start nodes) ≡ take (n + 1) (first ∷ behind) ∷ phrases_of (drop (start + (marks + (n + 1))) nodes)
phrases_from nodes start marks n first behind counted is len =
    let left = drop start nodes in
    let here : drop (prefix_len is_mark left) left ≡ first ∷ behind = rw (← counted) is in
    let rest : drop (start + (marks + (n + 1))) nodes ≡ drop n behind =
    rw (← drop-drop (marks + (n + 1)) start nodes, ← drop-drop (n + 1) marks left, is, add-one) refl in
    behind_marks left
    ∙ ap phrases_of here
    ∙ first_phrase first behind n (unmarked left first behind here) len
    ∙ (rw (rest, add-one) refl)
