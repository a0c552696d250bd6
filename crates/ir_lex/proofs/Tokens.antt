-- The tokens from a spot on, step by step.
use Rattle.std.proofs.Common.{◌≡◌, ◌≢◌, ℕ, zero, suc, ◌+◌, Bool, true, false, cond, List, [], ◌∷◌, length, take, drop, Some, None, refl, sym, ap, subst, ◌∙◌, add-one, arith}
use Rattle.std.specs.Prelude.{◌==◌}
use Rattle.std.proofs.lemmas.Bool.{ne_eqb}
use Rattle.std.specs.List.{prefix_len}
use Rattle.ir_lex.specs.declared.token.TokenKind.{TokenKind}
use Rattle.ir_lex.specs.Bytes.{is_space, is_blank, is_in_line}
use Rattle.ir_lex.specs.Extent.{extent_of}
use Rattle.ir_lex.specs.Lexer.{Spot, ended, ahead, failed, past, gap_of, passes_line, tokens_after}
use Rattle.ir_lex.specs.Place.{BeginsNoGap}
use Rattle.ir_lex.proofs.Longest.{apart}

abbrev pub at : ℕ → ℕ → Bool → Spot
at start line fresh = record { start = start; line = line; fresh = fresh }

-- bytes that are passed over
pub tokens_after-drop : (bytes : List ℕ) (passed start line : ℕ) (fresh : Bool)
    → tokens_after bytes passed (at start line fresh) ≡ tokens_after (drop passed bytes) 0 (at (start + passed) line fresh)
unfolding tokens_after
tokens_after-drop [] zero start line fresh = refl
tokens_after-drop [] (suc passed) start line fresh = refl
tokens_after-drop (first ∷ rest) zero start line fresh =
    let same : start ≡ start + 0 = omega arith in ap (λ (n : ℕ). tokens_after (first ∷ rest) 0 (at n line fresh)) same
tokens_after-drop (first ∷ rest) (suc passed) start line fresh =
    let same : start + 1 + passed ≡ start + suc passed = omega arith in
    tokens_after-drop rest passed (start + 1) line fresh ∙ ap (λ (n : ℕ). tokens_after (drop passed rest) 0 (at n line fresh)) same

pub past_blank : (first : ℕ) (rest : List ℕ) (spot : Spot) → is_blank first ≡ true → tokens_after rest 0 (past first spot) ≡ tokens_after (first ∷ rest) 0 spot
unfolding tokens_after
past_blank first rest spot blank = rw blank refl

-- a line feed, another blank, a comment or a skipped line
pub past_feed : (bytes : List ℕ) (first : ℕ) (rest : List ℕ) (start line : ℕ) (fresh : Bool) → bytes ≡ first ∷ rest → first ≡ 10
    → tokens_after rest 0 (at (start + 1) (line + 1) true) ≡ tokens_after bytes 0 (at start line fresh)
unfolding tokens_after
past_feed bytes first rest start line fresh is feed = rw (is, feed) refl

no_feed : (byte : ℕ) → is_space byte ≡ true → (byte == 10) ≡ false
no_feed byte space = apart is_space byte 10 space refl

pub past_space : (bytes : List ℕ) (first : ℕ) (rest : List ℕ) (start line : ℕ) (fresh : Bool) → bytes ≡ first ∷ rest
    → is_space first ≡ true → tokens_after rest 0 (at (start + 1) line fresh) ≡ tokens_after bytes 0 (at start line fresh)
unfolding tokens_after
past_space bytes first rest start line fresh is space = rw (is, space, no_feed first space) refl

pub past_line : (bytes : List ℕ) (first : ℕ) (rest : List ℕ) (start line : ℕ) (fresh : Bool) → bytes ≡ first ∷ rest → first ≢ 10
    → is_space first ≡ false → passes_line first bytes fresh ≡ true
    → tokens_after (drop (prefix_len is_in_line rest) rest) 0 (at (start + 1 + prefix_len is_in_line rest) line false)
    ≡ tokens_after bytes 0 (at start line fresh)
unfolding tokens_after
past_line bytes first rest start line fresh is no_feed space passes =
    let other : (first == 10) ≡ false = ne_eqb first 10 no_feed in
    let here : passes_line first (first ∷ rest) fresh ≡ true = rw is at passes in
    rw (is, space, other, here) (sym (tokens_after-drop rest (prefix_len is_in_line rest) (start + 1) line false))

pub tokens_end : (bytes : List ℕ) (spot : Spot) → length bytes ≡ 0 → tokens_after bytes 0 spot ≡ ended
unfolding tokens_after
tokens_end [] spot none = refl
tokens_end (first ∷ rest) spot none = cc

no_gap_dark : (first : ℕ) (rest : List ℕ) (fresh : Bool) → gap_of fresh first rest ≡ None → is_blank first ≡ false
no_gap_dark first rest fresh no_gap =
    elim (is_blank first) as (λ b. cond b (Some 0) (cond (passes_line first (first ∷ rest) fresh) (Some (prefix_len is_in_line rest)) None) ≡ None → b ≡ false) [
      | true ↦ λ none. cc
      | false ↦ λ _. refl
    ] no_gap

-- a byte that begins no token, and one that begins one
pub tokens_fault : (bytes : List ℕ) (first : ℕ) (rest : List ℕ) (start line : ℕ) (fresh : Bool) → bytes ≡ first ∷ rest
    → BeginsNoGap fresh bytes → None ≡ extent_of first rest
    → tokens_after bytes 0 (at start line fresh) ≡ failed (record { line = line; at = start })
unfolding tokens_after
tokens_fault bytes first rest start line fresh is no_gap extent =
    let here : gap_of fresh first rest ≡ None = subst (BeginsNoGap fresh) is no_gap in
    rw (is, here, ← extent) refl

pub tokens_found_first : (first : ℕ) (rest : List ℕ) (start line : ℕ) (fresh : Bool) (kind : TokenKind) (more : ℕ)
    → gap_of fresh first rest ≡ None → Some (kind, more) ≡ extent_of first rest
    → tokens_after (first ∷ rest) 0 (at start line fresh)
    ≡ ahead (record { kind = kind; text = first ∷ take more rest; start = start; line = line }) (tokens_after (drop more rest) 0 (at (start + 1 + more) line false))
unfolding tokens_after
tokens_found_first first rest start line fresh kind more no_gap extent =
    rw (no_gap, ← extent, no_gap_dark first rest fresh no_gap)
    (ap (ahead (record { kind = kind; text = first ∷ take more rest; start = start; line = line })) (tokens_after-drop rest more (start + 1) line false))

pub tokens_found : (bytes : List ℕ) (first : ℕ) (rest : List ℕ) (start line : ℕ) (fresh : Bool) (kind : TokenKind) (more : ℕ) → bytes ≡ first ∷ rest
    → BeginsNoGap fresh bytes → Some (kind, more) ≡ extent_of first rest
    → tokens_after bytes 0 (at start line fresh)
    ≡ ahead (record { kind = kind; text = take (more + 1) bytes; start = start; line = line }) (tokens_after (drop (more + 1) bytes) 0 (at (start + (more + 1)) line false))
tokens_found bytes first rest start line fresh kind more is no_gap extent =
    let here : gap_of fresh first rest ≡ None = subst (BeginsNoGap fresh) is no_gap in
    let same : start + 1 + more ≡ start + suc more = omega arith in
    rw (is, add-one more, ← same) (tokens_found_first first rest start line fresh kind more here extent)
