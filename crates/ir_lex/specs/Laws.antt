-- What a text is by its tokens, in words of its own: what lies between tokens, and what a token at a place is.
use Rattle.std.specs.Prelude.{◌≡◌, ℕ, ◌+◌, ◌<◌, ◌≤◌, Bool, true, false, List, [], ◌∷◌, ◌++◌, length, take, drop, count_by, ◌==◌}
use Rattle.std.specs.List.{list_all, prefix_len}
use Rattle.ir_lex.specs.declared.token.TokenKind.{TokenKind}
use Rattle.ir_lex.specs.declared.token.LexError.{LexError}
use Rattle.ir_lex.specs.Bytes.{is_blank, is_in_line}
use Rattle.ir_lex.specs.Lexer.{Lexed, Spot, ended, failed, ahead, past, passes_line}
use Rattle.ir_lex.specs.Token.{Lexeme, is_token}

-- no front of the bytes is a token of any kind
abbrev pub BeginsNoToken : List ℕ → Type 0
BeginsNoToken bytes = (kind : TokenKind) (front back : List ℕ) → bytes ≡ front ++ back → is_token kind front ≡ false

-- the text is a token of the kind, and with what follows it no longer front is a token of any kind
pub record IsLongest (kind : TokenKind) (text rest : List ℕ) : Type 0 where
  pub shape : is_token kind text ≡ true
  pub longest : (other : TokenKind) (front back : List ℕ) → text ++ rest ≡ front ++ back → length text < length front → is_token other front ≡ false

-- bytes to the end of a line, and what follows them: nothing, or a line feed
pub record IsLine (line rest : List ℕ) : Type 0 where
  pub whole : list_all is_in_line line ≡ true
  pub ends : prefix_len is_in_line rest ≡ 0

-- neither a blank nor what passes over a line begins here
pub record IsOutside (first : ℕ) (rest : List ℕ) (fresh : Bool) : Type 0 where
  pub no_blank : is_blank first ≡ false
  pub no_gap : passes_line first (first ∷ rest) fresh ≡ false

-- the spot behind bytes of one line that are no blanks
abbrev pub behind : List ℕ → Spot → Spot
behind text spot = record { start = spot.start + length text; line = spot.line; fresh = false }

-- The text from a spot on is blanks, comments, skipped lines and tokens, each token the longest at its place, up to
-- its end or to a place where none begins.
pub data LaidOut : Spot → List ℕ → Lexed → Type 0 where
  Ends : {spot : Spot} → LaidOut spot [] ended
  Fails : {spot : Spot} {first : ℕ} {rest : List ℕ} → IsOutside first rest spot.fresh → BeginsNoToken (first ∷ rest)
      → LaidOut spot (first ∷ rest) (failed (record { line = spot.line; at = spot.start }))
  Blank : {spot : Spot} {first : ℕ} {rest : List ℕ} {lexed : Lexed} → is_blank first ≡ true → LaidOut (past first spot) rest lexed
      → LaidOut spot (first ∷ rest) lexed
  Line : {spot : Spot} {first : ℕ} {line rest : List ℕ} {lexed : Lexed} → is_blank first ≡ false
      → passes_line first (first ∷ (line ++ rest)) spot.fresh ≡ true → IsLine line rest
      → LaidOut (behind (first ∷ line) spot) rest lexed → LaidOut spot (first ∷ (line ++ rest)) lexed
  Token : {spot : Spot} {kind : TokenKind} {first : ℕ} {more rest : List ℕ} {lexed : Lexed} → IsOutside first (more ++ rest) spot.fresh
      → IsLongest kind (first ∷ more) rest → LaidOut (behind (first ∷ more) spot) rest lexed
      → LaidOut spot (first ∷ (more ++ rest)) (ahead (record { kind = kind; text = first ∷ more; start = spot.start; line = spot.line }) lexed)

abbrev pub line_at : List ℕ → ℕ → ℕ
line_at text start = 1 + count_by (λ byte. byte == 10) (take start text)

-- a token of the text: a slice of it at its start, on its line, and the longest there
pub record IsTokenOf (text : List ℕ) (token : Lexeme) : Type 0 where
  pub slice : token.text ≡ take (length token.text) (drop token.start text)
  pub line : token.line ≡ line_at text token.start
  pub shape : is_token token.kind token.text ≡ true
  pub longest : (kind : TokenKind) (front back : List ℕ) → drop token.start text ≡ front ++ back → length token.text < length front → is_token kind front ≡ false

-- a place of the text, before its end, where no token begins
pub record IsFaultOf (text : List ℕ) (error : LexError) : Type 0 where
  pub inside : error.at < length text
  pub line : error.line ≡ line_at text error.at
  pub none : BeginsNoToken (drop error.at text)

-- the first token ends before the second begins
abbrev pub Precedes : Lexeme → Lexeme → Type 0
Precedes token other = token.start + length token.text ≤ other.start
