-- A text is laid out as its tokens.
use Rattle.std.proofs.Common.{◌≡◌, ℕ, zero, suc, ◌+◌, ◌≤◌, true, false, List, [], ◌∷◌, ◌++◌, length, take, drop, Option, Some, None, inl, inr, refl, sym, ap, subst, ◌∙◌, arith, length-append}
use Rattle.std.specs.Prelude.{◌==◌}
use Rattle.std.specs.List.{prefix_len}
use Rattle.std.proofs.lemmas.Bool.{eqb-false, or_parts, false_from_ne_true}
use Rattle.std.proofs.lemmas.List.{take-append-drop, length-take}
use Rattle.ir_lex.specs.declared.token.TokenKind.{TokenKind}
use Rattle.ir_lex.specs.Bytes.{is_space, is_blank, is_in_line}
use Rattle.ir_lex.specs.Token.{Lexeme, is_token}
use Rattle.ir_lex.specs.Extent.{extent_of}
use Rattle.ir_lex.specs.Lexer.{Spot, ahead, past, gap_of, passes_line, tokens_after}
use Rattle.ir_lex.specs.Laws.{BeginsNoToken, IsLongest, IsOutside, behind, LaidOut, Ends, Fails, Blank, Line, Token}
use Rattle.ir_lex.proofs.Fronts.{run_passes, run_ends, taken}
use Rattle.ir_lex.proofs.Longest.{AtLeast, token_fits}
use Rattle.ir_lex.proofs.Shapes.{Shaped, extent_shape}
use Rattle.ir_lex.proofs.Tokens.{at, past_blank, past_line, tokens_fault, tokens_found_first}

-- what a token at the front says of the extent there
front_fits : (kind : TokenKind) (front back : List ℕ) (first : ℕ) (rest : List ℕ) → first ∷ rest ≡ front ++ back → is_token kind front ≡ true
    → (more : ℕ) × (length front ≡ suc more) × AtLeast more (extent_of first rest)
front_fits kind [] back first rest split token = absurd (token_fits kind [] back token)
front_fits kind (other ∷ more) back first rest split token =
    let same : extent_of other (more ++ back) ≡ extent_of first rest = cc in
    (length more, refl, subst (AtLeast (length more)) same (token_fits kind (other ∷ more) back token))

none_begins : (first : ℕ) (rest : List ℕ) → None ≡ extent_of first rest → BeginsNoToken (first ∷ rest)
none_begins first rest none kind front back split =
    false_from_ne_true _ (λ token. let fit = front_fits kind front back first rest split token in subst (AtLeast fit.0) (sym none) fit.2)

is_longest : (first : ℕ) (rest : List ℕ) (kind : TokenKind) (more : ℕ) → Some (kind, more) ≡ extent_of first rest → IsLongest kind (first ∷ take more rest) (drop more rest)
is_longest first rest kind more extent = record {
  shape = subst (Shaped first rest) (sym extent) (extent_shape first rest);
  longest = λ other front back split longer. false_from_ne_true _ (λ token.
      let whole : first ∷ rest ≡ front ++ back = ap (λ (bytes : List ℕ). first ∷ bytes) (sym (take-append-drop more rest)) ∙ split in
      let fit = front_fits other front back first rest whole token in
      let most : fit.0 ≤ more = subst (AtLeast fit.0) (sym extent) fit.2 in
      let lengths : suc (length rest) ≡ length front + length back = ap length whole ∙ length-append front back in
      absurd (omega (arith, fit.1, length-take more rest)));
}

spot_behind : (more : ℕ) (rest : List ℕ) (start line : ℕ) → tokens_after (drop more rest) 0 (at (start + suc (length (take more rest))) line false) ≡ tokens_after (drop more rest) 0 (at (start + 1 + more) line false)
unfolding tokens_after
spot_behind more rest start line =
    elim (taken rest more) [
      | inl whole ↦
          let same : start + suc (length (take more rest)) ≡ start + 1 + more = omega arith in
          ap (λ (n : ℕ). tokens_after (drop more rest) 0 (at n line false)) same
      | inr none ↦ rw none refl
    ]

-- what is laid out behind each number of bytes
abbrev Later : List ℕ → Type 0
Later rest = (more : ℕ) (spot : Spot) → LaidOut spot (drop more rest) (tokens_after (drop more rest) 0 spot)

line_step : (first : ℕ) (rest : List ℕ) (spot : Spot) → is_blank first ≡ false → passes_line first (first ∷ rest) spot.fresh ≡ true → Later rest
    → LaidOut spot (first ∷ rest) (tokens_after (first ∷ rest) 0 spot)
line_step first rest spot dark passes later =
    let more = prefix_len is_in_line rest in
    let parts = or_parts (is_space first) (first == 10) dark in
    let whole = take-append-drop more rest in
    let after = behind (first ∷ take more rest) spot in
    let same = spot_behind more rest spot.start spot.line
    ∙ past_line (first ∷ rest) first rest spot.start spot.line spot.fresh refl (eqb-false first 10 parts.1) parts.0 passes in
    let lexed = tokens_after (first ∷ rest) 0 spot in
    subst (λ (bytes : List ℕ). LaidOut spot (first ∷ bytes) lexed) whole
    (Line dark (subst (λ (bytes : List ℕ). passes_line first (first ∷ bytes) spot.fresh ≡ true) (sym whole) passes)
    (record { whole = run_passes is_in_line rest; ends = run_ends is_in_line rest }) (subst (LaidOut after (drop more rest)) same (later more after)))

token_step : (first : ℕ) (rest : List ℕ) (spot : Spot) (extent : Option (TokenKind × ℕ)) → IsOutside first rest spot.fresh → gap_of spot.fresh first rest ≡ None
    → extent ≡ extent_of first rest → Later rest → LaidOut spot (first ∷ rest) (tokens_after (first ∷ rest) 0 spot)
token_step first rest spot None outside no_gap extent later =
    subst (LaidOut spot (first ∷ rest)) (sym (tokens_fault (first ∷ rest) first rest spot.start spot.line spot.fresh refl no_gap extent))
    (Fails outside (none_begins first rest extent))
token_step first rest spot (Some (kind, more)) outside no_gap extent later =
    let whole = take-append-drop more rest in
    let after = behind (first ∷ take more rest) spot in
    let token : Lexeme = record { kind = kind; text = first ∷ take more rest; start = spot.start; line = spot.line } in
    let same = ap (ahead token) (spot_behind more rest spot.start spot.line) ∙ sym (tokens_found_first first rest spot.start spot.line spot.fresh kind more no_gap extent) in
    subst (LaidOut spot (first ∷ rest)) same
    (subst (λ (bytes : List ℕ). LaidOut spot (first ∷ bytes) (ahead token (tokens_after (drop more rest) 0 after))) whole
    (Token (subst (λ (bytes : List ℕ). IsOutside first bytes spot.fresh) (sym whole) outside) (is_longest first rest kind more extent) (later more after)))

step : (first : ℕ) (rest : List ℕ) (spot : Spot) → Later rest → LaidOut spot (first ∷ rest) (tokens_after (first ∷ rest) 0 spot)
step first rest spot later =
    elim (is_blank first) as (λ b. is_blank first ≡ b → LaidOut spot (first ∷ rest) (tokens_after (first ∷ rest) 0 spot)) [
      | true ↦ λ blank. subst (LaidOut spot (first ∷ rest)) (past_blank first rest spot blank) (Blank blank (later 0 (past first spot)))
      | false ↦ λ dark. elim (passes_line first (first ∷ rest) spot.fresh) as (λ b. passes_line first (first ∷ rest) spot.fresh ≡ b → LaidOut spot (first ∷ rest) (tokens_after (first ∷ rest) 0 spot)) [
        | true ↦ λ passes. line_step first rest spot dark passes later
        | false ↦ λ kept. token_step first rest spot (extent_of first rest) (record { no_blank = dark; no_gap = kept }) (rw (dark, kept) refl) refl later
      ] refl
    ] refl

laid_out : (bytes : List ℕ) → Later bytes
unfolding tokens_after
laid_out [] zero spot = Ends
laid_out [] (suc more) spot = Ends
laid_out (first ∷ rest) zero spot = step first rest spot (laid_out rest)
laid_out (first ∷ rest) (suc more) spot = laid_out rest more spot

pub text_laid_out : (text : List ℕ) → LaidOut (at 0 1 true) text (tokens_after text 0 (at 0 1 true))
text_laid_out text = laid_out text 0 (at 0 1 true)
