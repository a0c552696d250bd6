-- Phrases are the nodes that they are cut from.
use Rattle.std.proofs.Common.{◌≡◌, ℕ, zero, suc, Bool, true, false, List, [], ◌∷◌, ◌++◌, length, ap, arith, refl, subst, sym, ◌∙◌}
use Rattle.std.specs.List.{AllByRecursion}
use Rattle.ir_read.specs.Node.{Told}
use Rattle.ir_items.proofs.Phrasing.{mark_opens_none}
use Rattle.ir_items.specs.Laws.{AreClosed, IsClosed, IsPhrase, depth_at_end, joined, kept_by, without_marks}
use Rattle.ir_items.specs.Phrase.{Phrased, depth_behind, is_mark, open_len, phrased, phrased_by, phrases_of}

-- what is left of what is open and the phrases behind it are these nodes
record ArePhrased (depth : ℕ) (nodes : List Told) (split : Phrased) : Type 0 where
  whole : split.rest ++ joined split.phrases ≡ without_marks depth nodes
  left : open_len depth split.rest ≡ length split.rest
  shaped : AllByRecursion IsPhrase split.phrases

nothing_open : (rest : List Told) → open_len zero rest ≡ length rest → rest ≡ []
nothing_open [] is = refl
nothing_open (node ∷ rest) is = absurd (omega (arith, is))

-- behind a mark nothing is open
none_left : (node : Told) (nodes : List Told) (split : Phrased) → is_mark node ≡ true →
    ArePhrased (depth_behind zero node) nodes split → split.rest ≡ []
none_left node nodes split is more =
    nothing_open split.rest (subst (λ depth. open_len depth split.rest ≡ length split.rest) (mark_opens_none node is) more.left)

phrased_more : (depth : ℕ) (mark : Bool) (node : Told) (nodes : List Told) (split : Phrased) → is_mark node ≡ mark →
    ArePhrased (depth_behind depth node) nodes split →
    ArePhrased depth (node ∷ nodes) (phrased_by depth mark node split)
phrased_more zero true node nodes split is more =
    let joins : joined split.phrases ≡ without_marks (depth_behind zero node) nodes = rw (none_left node nodes split is more) at more.whole in
    record {
      whole = joins ∙ ap (λ mark. kept_by zero mark node (without_marks (depth_behind zero node) nodes)) (sym is);
      left = refl;
      shaped = more.shaped;
    }
phrased_more zero false node nodes split is more = record {
  whole =
      ap (λ rest. node ∷ rest) more.whole
      ∙ ap (λ mark. kept_by zero mark node (without_marks (depth_behind zero node) nodes)) (sym is);
  left = refl;
  shaped = ((is, more.left), more.shaped);
}
phrased_more (suc depth) mark node nodes split is more = record {
  whole = ap (λ rest. node ∷ rest) more.whole;
  left = ap (λ len. suc len) more.left;
  shaped = more.shaped;
}

are_phrased : (depth : ℕ) (nodes : List Told) → ArePhrased depth nodes (phrased depth nodes)
are_phrased zero [] = record { whole = refl; left = refl; shaped = tt }
are_phrased (suc depth) [] = record { whole = refl; left = refl; shaped = tt }
are_phrased depth (node ∷ nodes) =
    phrased_more depth (is_mark node) node nodes _ refl (are_phrased (depth_behind depth node) nodes)

pub phrases_whole : (nodes : List Told) → joined (phrases_of nodes) ≡ without_marks zero nodes
phrases_whole nodes =
    let are = are_phrased zero nodes in
    let none : (phrased zero nodes).rest ≡ [] = nothing_open (phrased zero nodes).rest are.left in
    rw none at are.whole

pub phrases_shaped : (nodes : List Told) → AllByRecursion IsPhrase (phrases_of nodes)
phrases_shaped nodes = (are_phrased zero nodes).shaped

-- ---- what is closed

-- where phrases follow, all is closed that was open
abbrev IsLeft : ℕ → List Told → List (List Told) → Type 0
IsLeft depth rest [] = Unit {0}
IsLeft depth rest (phrase ∷ phrases) = depth_at_end depth rest ≡ zero

record AreEnded (depth : ℕ) (nodes : List Told) (split : Phrased) : Type 0 where
  left : IsLeft depth split.rest split.phrases
  closed : AreClosed split.phrases
  ended : depth_at_end depth nodes ≡ zero → depth_at_end depth split.rest ≡ zero
  all_closed : depth_at_end depth nodes ≡ zero → AllByRecursion IsClosed split.phrases

none_is_left : (phrases : List (List Told)) → IsLeft zero [] phrases
none_is_left [] = tt
none_is_left (phrase ∷ phrases) = refl

closed_more : (node : Told) (rest : List Told) (phrases : List (List Told)) → IsLeft (depth_behind zero node) rest phrases →
    AreClosed phrases → AreClosed ((node ∷ rest) ∷ phrases)
closed_more node rest [] left closed = tt
closed_more node rest (phrase ∷ phrases) left closed = (left, closed)

left_more : (depth : ℕ) (node : Told) (rest : List Told) (phrases : List (List Told)) → IsLeft (depth_behind depth node) rest phrases →
    IsLeft depth (node ∷ rest) phrases
left_more depth node rest [] left = tt
left_more depth node rest (phrase ∷ phrases) left = left

ended_more : (depth : ℕ) (mark : Bool) (node : Told) (nodes : List Told) (split : Phrased) →
    AreEnded (depth_behind depth node) nodes split → AreEnded depth (node ∷ nodes) (phrased_by depth mark node split)
ended_more zero true node nodes split more = record {
  left = none_is_left split.phrases;
  closed = more.closed;
  ended = λ is. refl;
  all_closed = more.all_closed;
}
ended_more zero false node nodes split more = record {
  left = refl;
  closed = closed_more node split.rest split.phrases more.left more.closed;
  ended = λ is. refl;
  all_closed = λ is. (more.ended is, more.all_closed is);
}
ended_more (suc depth) mark node nodes split more = record {
  left = left_more (suc depth) node split.rest split.phrases more.left;
  closed = more.closed;
  ended = more.ended;
  all_closed = more.all_closed;
}

are_ended : (depth : ℕ) (nodes : List Told) → AreEnded depth nodes (phrased depth nodes)
are_ended depth [] = record { left = tt; closed = tt; ended = λ is. is; all_closed = λ is. tt }
are_ended depth (node ∷ nodes) =
    ended_more depth (is_mark node) node nodes _ (are_ended (depth_behind depth node) nodes)

pub phrases_closed : (nodes : List Told) → AreClosed (phrases_of nodes)
phrases_closed nodes = (are_ended zero nodes).closed

pub phrases_all_closed : (nodes : List Told) → IsClosed nodes → AllByRecursion IsClosed (phrases_of nodes)
phrases_all_closed nodes = (are_ended zero nodes).all_closed
