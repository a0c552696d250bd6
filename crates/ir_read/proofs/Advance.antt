-- Which rule takes a token, case by case.
use Rattle.std.proofs.Common.{◌≡◌, ℕ, zero, suc, ◌+◌, ◌-◌, ◌<◌, false, List, [], ◌∷◌, ◌++◌, length, get_or, reverse, take, Bor, Some, None, Ok, Err, refl, sym, arith}
use Rattle.std.specs.Prelude.{◌==◌}
use Rattle.std.specs.List.{flat_map}
use Rattle.std.proofs.lemmas.List.{reverse-append, take_more}
use Rattle.ir_read.specs.declared.terminal.Terminal.{Terminal}
use Rattle.ir_read.specs.declared.grammar.Rule.{Rule}
use Rattle.ir_read.specs.declared.grammar.Rule.TheVariants as r
use Rattle.ir_read.specs.Grammar.{otherwise, row}
use Rattle.ir_read.specs.Wants.{advance, is_nothing}

pub advance_none : (depth : ℕ) (terminal : Terminal) → advance depth [] terminal ≡ Err r.Items
unfolding advance
advance_none depth terminal = refl

pub advance_takes : (depth : ℕ) (rule : Rule) (wants more : List Rule) (terminal : Terminal) → row rule terminal ≡ Some more →
    advance depth (rule ∷ wants) terminal ≡ Ok (rule, more ++ wants)
unfolding advance
advance_takes zero rule wants more terminal is = rw is refl
advance_takes (suc depth) rule wants more terminal is = rw is refl

pub advance_stuck : (depth : ℕ) (rule : Rule) (wants : List Rule) (terminal : Terminal) → row rule terminal ≡ None → otherwise rule ≡ None →
    advance depth (rule ∷ wants) terminal ≡ Err rule
unfolding advance
advance_stuck zero rule wants terminal is other = rw is refl
advance_stuck (suc depth) rule wants terminal is other = rw (is, other) refl

pub advance_deep : (rule : Rule) (wants : List Rule) (terminal : Terminal) → row rule terminal ≡ None →
    advance 0 (rule ∷ wants) terminal ≡ Err rule
unfolding advance
advance_deep rule wants terminal is = rw is refl

pub advance_stands : (depth : ℕ) (rule : Rule) (wants more : List Rule) (terminal : Terminal) → row rule terminal ≡ None →
    otherwise rule ≡ Some more → advance (suc depth) (rule ∷ wants) terminal ≡ advance depth (more ++ wants) terminal
unfolding advance
advance_stands depth rule wants more terminal is other = rw (is, other) refl

pub advance_below : (depth : ℕ) (rule : Rule) (wants more : List Rule) (terminal : Terminal) → row rule terminal ≡ None →
    otherwise rule ≡ Some more → 0 < depth → advance depth (rule ∷ wants) terminal ≡ advance (depth - 1) (more ++ wants) terminal
advance_below zero rule wants more terminal is other positive = absurd (omega arith)
advance_below (suc depth) rule wants more terminal is other positive =
    let e : suc depth - 1 ≡ depth = omega arith in
    rw e (advance_stands depth rule wants more terminal is other)

-- a rule in front is something
pub something_is_wanted : (front rest : List Rule) → (length front == 0) ≡ false → is_nothing (front ++ rest) ≡ false
something_is_wanted [] rest is = absurd (let h : ⊥ = cc in h)
something_is_wanted (rule ∷ front) rest is = refl

-- so is one in a row, where the rows behind it have none
pub row_is_wanted : (rows : List (Bor (List Rule))) (place count : ℕ) (row : Bor (List Rule)) → place < length rows → count ≡ place + 1 →
    (length (get_or rows place row).now == 0) ≡ false →
    flat_map (λ row. row.now) (reverse (take count rows)) ≡ flat_map (λ row. row.now) (reverse rows) →
    false ≡ is_nothing (flat_map (λ row. row.now) (reverse rows))
row_is_wanted rows place count row lt is some same =
    let split : reverse (take count rows) ≡ get_or rows place row ∷ reverse (take place rows) =
    rw (is, take_more rows place row lt) (reverse-append (take place rows) (get_or rows place row ∷ [])) in
    let wanted : is_nothing (flat_map (λ row. row.now) (reverse (take count rows))) ≡ false =
    rw split (something_is_wanted (get_or rows place row).now (flat_map (λ row. row.now) (reverse (take place rows))) some) in
    rw (sym same) (sym wanted)
