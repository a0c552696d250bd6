-- Where the tokens of a text that is laid out stand in the whole.
use Rattle.std.proofs.Common.{◌≡◌, ℕ, ◌+◌, ◌≤◌, Bool, true, false, cond, List, [], ◌∷◌, ◌++◌, length, take, drop, refl, sym, ap, ◌∙◌, arith, append_assoc, length-append}
use Rattle.std.specs.Prelude.{◌==◌, count_by, IfSome, if◌then◌else◌}
use Rattle.std.specs.List.{All, AllPairs, list_all}
use Rattle.std.proofs.lemmas.Bool.{and_parts, and_from, or_parts, not-true, not_from_false}
use Rattle.std.proofs.lemmas.List.Sums.{sum_by-append}
use Rattle.std.proofs.lemmas.List.Elements.{All-nil, All-cons}
use Rattle.std.proofs.lemmas.List.Kept.{AllPairs-cons}
use Rattle.ir_lex.specs.Bytes.{is_space, is_blank, is_in_line}
use Rattle.ir_lex.specs.Token.{Lexeme}
use Rattle.ir_lex.specs.Lexer.{Lexed, Spot, past}
use Rattle.ir_lex.specs.Laws.{IsTokenOf, IsFaultOf, Precedes, behind, LaidOut, Ends, Fails, Blank, Line, Token}
use Rattle.ir_lex.proofs.Shapes.{token_in_line}

drop_front : (xs ys : List ℕ) → drop (length xs) (xs ++ ys) ≡ ys
drop_front [] ys = refl
drop_front (first ∷ xs) ys = drop_front xs ys

take_front : (xs ys : List ℕ) → take (length xs) (xs ++ ys) ≡ xs
take_front [] ys = refl
take_front (first ∷ xs) ys = ap (λ (text : List ℕ). first ∷ text) (take_front xs ys)

abbrev feeds : List ℕ → ℕ
feeds bytes = count_by (λ byte. byte == 10) bytes

no_feeds : (bytes : List ℕ) → list_all is_in_line bytes ≡ true → feeds bytes ≡ 0
no_feeds [] all = refl
no_feeds (first ∷ bytes) all =
    let parts = and_parts (is_in_line first) (list_all is_in_line bytes) all in
    let other = not-true (first == 10) parts.0 in
    let rest = no_feeds bytes parts.1 in
    rw other (omega arith)

-- a spot of a text, by the bytes before it and those from there on
record Stands (text before bytes : List ℕ) (spot : Spot) : Type 0 where
  split : text ≡ before ++ bytes
  start : spot.start ≡ length before
  line : spot.line ≡ 1 + feeds before

one_feed : (test : Bool) (line before : ℕ) → line ≡ 1 + before → (if test then line + 1 else line) ≡ 1 + (before + (0 + cond test 1 0))
one_feed true line before same = omega arith
one_feed false line before same = omega arith

stands_past : (text before : List ℕ) (first : ℕ) (rest : List ℕ) (spot : Spot) → is_blank first ≡ true → Stands text before (first ∷ rest) spot
    → Stands text (before ++ first ∷ []) rest (past first spot)
stands_past text before first rest spot blank here =
    let counted = sum_by-append (λ (byte : ℕ). cond (byte == 10) 1 0) before (first ∷ []) in
    record {
      split = here.split ∙ sym (append_assoc before (first ∷ []) rest);
      start = rw blank (omega (arith, here.start, length-append before (first ∷ [])));
      line = rw (blank, counted) (one_feed (first == 10) spot.line (feeds before) here.line);
    }

stands_behind : (text before : List ℕ) (first : ℕ) (more rest : List ℕ) (spot : Spot) → list_all is_in_line (first ∷ more) ≡ true
    → Stands text before (first ∷ (more ++ rest)) spot → Stands text (before ++ first ∷ more) rest (behind (first ∷ more) spot)
stands_behind text before first more rest spot all here =
    let counted = sum_by-append (λ (byte : ℕ). cond (byte == 10) 1 0) before (first ∷ more) in
    record {
      split = here.split ∙ sym (append_assoc before (first ∷ more) rest);
      start = omega (arith, here.start, length-append before (first ∷ more));
      line = rw counted (omega (arith, here.line, no_feeds (first ∷ more) all));
    }

abbrev Facts : List ℕ → Lexed → Type 0
Facts text lexed = All (IsTokenOf text) lexed.tokens × IfSome lexed.fault (IsFaultOf text)

facts : (text before : List ℕ) {spot : Spot} {bytes : List ℕ} {lexed : Lexed} → LaidOut spot bytes lexed → Stands text before bytes spot → Facts text lexed
facts text before Ends here = (All-nil (IsTokenOf text), tt)
facts text before (Fails {spot} {first} {rest} outside none) here =
    let behind_it : drop spot.start text ≡ first ∷ rest = rw (here.split, here.start) (drop_front before (first ∷ rest)) in
    let front : take spot.start text ≡ before = rw (here.split, here.start) (take_front before (first ∷ rest)) in (
      All-nil (IsTokenOf text),
      record {
        inside = rw (here.split, here.start) (omega (arith, length-append before (first ∷ rest)));
        line = rw front here.line;
        none = rw behind_it none;
      },
    )
facts text before (Blank {spot} {first} {rest} {lexed} blank later) here =
    facts text (before ++ first ∷ []) later (stands_past text before first rest spot blank here)
facts text before (Line {spot} {first} {line} {rest} {lexed} dark passes ends later) here =
    let first_stays = not_from_false _ (or_parts (is_space first) (first == 10) dark).1 in
    facts text (before ++ first ∷ line) later (stands_behind text before first line rest spot (and_from _ _ first_stays ends.whole) here)
facts text before (Token {spot} {kind} {first} {more} {rest} {lexed} outside longest later) here =
    let all = token_in_line kind (first ∷ more) longest.shape in
    let after = facts text (before ++ first ∷ more) later (stands_behind text before first more rest spot all here) in
    let behind_it : drop spot.start text ≡ first ∷ (more ++ rest) = rw (here.split, here.start) (drop_front before (first ∷ (more ++ rest))) in
    let front : take spot.start text ≡ before = rw (here.split, here.start) (take_front before (first ∷ (more ++ rest))) in
    let token : Lexeme = record { kind = kind; text = first ∷ more; start = spot.start; line = spot.line } in
    let of_text : IsTokenOf text token = record {
      slice = rw behind_it (sym (take_front (first ∷ more) rest));
      line = rw front here.line;
      shape = longest.shape;
      longest = λ other fore back split. longest.longest other fore back (sym behind_it ∙ split);
    } in
    (All-cons (IsTokenOf text) token lexed.tokens of_text after.0, after.1)

pub text_facts : (text : List ℕ) {lexed : Lexed} → LaidOut (record { start = 0; line = 1; fresh = true }) text lexed → Facts text lexed
text_facts text laid = facts text [] laid (record { split = refl; start = refl; line = refl })

-- each token stands at the spot or behind it
starts : {spot : Spot} {bytes : List ℕ} {lexed : Lexed} → LaidOut spot bytes lexed → All (λ token. spot.start ≤ token.start) lexed.tokens
starts Ends = All-nil _
starts (Fails outside none) = All-nil _
starts (Blank {spot} {first} blank later) = λ k d within. let next : spot.start + 1 ≤ _ = rw blank at (starts later k d within) in omega arith
starts (Line {spot} {first} {line} dark passes ends later) = λ k d within. omega (arith, starts later k d within)
starts (Token {spot} {kind} {first} {more} {rest} {lexed} outside longest later) =
    All-cons (λ token. spot.start ≤ token.start) _ lexed.tokens (omega arith) (λ k d within. omega (arith, starts later k d within))

pub tokens_precede : {spot : Spot} {bytes : List ℕ} {lexed : Lexed} → LaidOut spot bytes lexed → AllPairs Precedes lexed.tokens
tokens_precede Ends = λ i j d less within. absurd (omega arith)
tokens_precede (Fails outside none) = λ i j d less within. absurd (omega arith)
tokens_precede (Blank blank later) = tokens_precede later
tokens_precede (Line dark passes ends later) = tokens_precede later
tokens_precede (Token {spot} {kind} {first} {more} {rest} {lexed} outside longest later) =
    AllPairs-cons Precedes _ lexed.tokens (starts later) (tokens_precede later)

pub tokens_are_few : {spot : Spot} {bytes : List ℕ} {lexed : Lexed} → LaidOut spot bytes lexed → length lexed.tokens ≤ length bytes
tokens_are_few Ends = omega arith
tokens_are_few (Fails outside none) = omega arith
tokens_are_few (Blank blank later) = omega (arith, tokens_are_few later)
tokens_are_few (Line {spot} {first} {line} {rest} dark passes ends later) = omega (arith, tokens_are_few later, length-append line rest)
tokens_are_few (Token {spot} {kind} {first} {more} {rest} outside longest later) = omega (arith, tokens_are_few later, length-append more rest)
