-- What the shape of a token tells of its class, and the lines behind it.
use Rattle.std.proofs.Common.{◌≡◌, ℕ, ◌+◌, ◌-◌, ◌≤◌, Bool, true, false, cond, List, [], ◌∷◌, ◌++◌, All, length, take, drop, suc, refl, arith}
use Rattle.std.specs.Prelude.{◌&&◌, ◌||◌, ◌==◌, count_by, slice_index}
use Rattle.std.specs.Char.{is_ascii_digit, is_ascii_alphanumeric}
use Rattle.std.specs.List.{list_all}
use Rattle.std.proofs.lemmas.Bool.Decides.{nat_tests}
use Rattle.std.proofs.lemmas.List.{length-append, take-append-le}
use Rattle.std.proofs.Math.Seq.{take-length}
use Rattle.std.proofs.lemmas.List.Sums.{sum_by-take-drop}
use Rattle.ir_lex.specs.declared.token.TokenKind.TheVariants as kinds
use Rattle.ir_lex.specs.Bytes as lexed
use Rattle.ir_lex.specs.Laws.{IsTokenOf, line_at}
use Rattle.ir_lex.specs.Lexer.{Lexed, ahead}
use Rattle.ir_lex.specs.Token.{Lexeme as Token, ends, is_some_of, is_token}
use Rattle.ir_read.specs.declared.terminal.Terminal.TheVariants as t
use Rattle.ir_read.specs.Terminal.{fits_word, is_name_byte, is_plain_or_quote, global_class, number_class}
use Rattle.ir_read.specs.Text.{last_line}
use Rattle.ir_read.proofs.Decimals.{short_fits}

-- ---- truth values

or_first : (a b : Bool) → (a || (false && b)) ≡ true → a ≡ true
or_first true b is = refl
or_first false b is = is

or_second : (a b : Bool) → ((false && a) || (true && b)) ≡ true → b ≡ true
or_second a b is = is

-- ---- numbers

some_are_all : (digits : List ℕ) → is_some_of is_ascii_digit digits ≡ true → list_all is_ascii_digit digits ≡ true
some_are_all [] is = refl
some_are_all (digit ∷ digits) is = is

fits : (digits : List ℕ) → list_all is_ascii_digit digits ≡ true → length digits ≤ 19 → fits_word digits ≡ true
fits digits all short = rw (all, short_fits digits all short) refl

pub short_natural : (text : List ℕ) → is_token kinds.Number text ≡ true → length text ≤ 19 → (slice_index text 0 == 45) ≡ false →
    number_class text ≡ t.Natural
short_natural [] is short other = absurd (let h : ⊥ = cc in h)
short_natural (first ∷ rest) is short other =
    let digits : list_all is_ascii_digit (first ∷ rest) ≡ true = or_first _ (is_some_of is_ascii_digit rest) (rw other at is) in
    rw (other, fits (first ∷ rest) digits short) refl

pub short_negative : (text : List ℕ) → is_token kinds.Number text ≡ true → length text ≤ 19 → (slice_index text 0 == 45) ≡ true →
    number_class text ≡ t.Negative
short_negative [] is short minus = absurd (let h : ⊥ = cc in h)
short_negative (first ∷ rest) is short minus =
    let other : is_ascii_digit first ≡ false = grind (arith, nat_tests) in
    let digits : list_all is_ascii_digit rest ≡ true = some_are_all rest (or_second (list_all is_ascii_digit rest) _ (rw (other, minus) at is)) in
    rw (minus, fits rest digits (omega (arith, short))) refl

-- ---- names

same_flags : (a b c d e : Bool) → (((a || b) || c) || d || e) ≡ true → (a || d || c || b || e) ≡ true
same_flags true b c d e is = refl
same_flags false b c true e is = refl
same_flags false b true false e is = refl
same_flags false true false false e is = refl
same_flags false false false false true is = refl
same_flags false false false false false is = is

same_name_byte : (byte : ℕ) → lexed.is_name_byte byte ≡ true → is_name_byte byte ≡ true
same_name_byte byte is = same_flags (is_ascii_alphanumeric byte) (byte == 95) (byte == 46) (byte == 36) (byte == 45) is

or_true : (a b : Bool) → b ≡ true → (a || b) ≡ true
or_true true b is = refl
or_true false b is = is

both : (a b : Bool) → (a && b) ≡ true → (a ≡ true) × (b ≡ true)
both true b is = (refl, is)
both false b is = absurd (let h : ⊥ = cc in h)

names_are_plain : (name : List ℕ) → list_all lexed.is_name_byte name ≡ true → list_all is_plain_or_quote name ≡ true
names_are_plain [] is = refl
names_are_plain (byte ∷ name) is =
    let parts = both _ _ is in
    rw (or_true (byte == 34) _ (same_name_byte byte parts.0), names_are_plain name parts.1) refl

pub plain_name : (text : List ℕ) → is_token kinds.Global text ≡ true → (slice_index (drop 1 text) 0 == 34) ≡ false → global_class text ≡ t.Global
plain_name [] is other = absurd (let h : ⊥ = cc in h)
plain_name (sigil ∷ []) is other = absurd (let h : false ≡ true = (both (sigil == 64) false is).1 in let n : ⊥ = cc in n)
plain_name (sigil ∷ byte ∷ name) is other =
    let named = (both (sigil == 64) _ is).1 in
    let some = or_first _ (ends 34 (list_all lexed.is_inside) name) (rw other at named) in
    let parts = both _ _ some in
    rw (names_are_plain (byte ∷ name) some, same_name_byte byte parts.0) refl

-- ---- lines

-- the last line, by the line of a place and the line feeds behind it
pub line_behind : (text front : List ℕ) (last start line count : ℕ) → text ≡ front ++ last ∷ [] → start ≤ length front →
    line ≡ line_at text start → count ≡ count_by (λ byte. byte == 10) (drop start front) → line + count ≡ last_line text
line_behind text front last start line count is within here counted =
    let length_is : length text ≡ length front + 1 = rw is (length-append front (last ∷ [])) in
    let ends : length text - 1 ≡ length front = omega (arith, length_is) in
    let most : take (length text - 1) text ≡ front = rw (ends, is, take-append-le (length front) front (last ∷ []) (omega arith)) (take-length front) in
    let before : take start text ≡ take start front = rw is (take-append-le start front (last ∷ []) within) in
    let split = sum_by-take-drop (λ (byte : ℕ). cond (byte == 10) 1 0) front start in
    rw most (omega (arith, rw before at here, counted, split))

-- what holds of all tokens that are left holds of the next one and of those behind it
pub next_token : (text : List ℕ) (token : Token) (left after : Lexed) → left ≡ ahead token after → All (IsTokenOf text) left.tokens →
    IsTokenOf text token × All (IsTokenOf text) after.tokens
next_token text token left after is all =
    let next : All (IsTokenOf text) (ahead token after).tokens = rw is at all in
    (next 0 token (omega arith), λ place other within. next (suc place) other (omega (arith, within)))
