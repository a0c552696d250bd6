-- The tokens of a text: blanks, comments and skipped lines are passed over, and at each other byte the longest token
-- is taken.
use Rattle.std.specs.Prelude.{ℕ, zero, suc, ◌+◌, Bool, true, false, ◌||◌, ◌&&◌, List, [], ◌∷◌, take, drop, Option, Some, None, Result, Ok, Err, ◌==◌, if◌then◌else◌}
use Rattle.std.specs.List.{prefix_len}
use Rattle.ir_lex.specs.declared.token.TokenKind.{TokenKind}
use Rattle.ir_lex.specs.declared.token.LexError.{LexError}
use Rattle.ir_lex.specs.Bytes.{is_blank, is_in_line}
use Rattle.ir_lex.specs.Extent.{extent_of}
use Rattle.ir_lex.specs.Gap.{is_skipped}
use Rattle.ir_lex.specs.Token.{Lexeme}

-- the tokens that are left, and the place behind them where no token begins, if there is one
pub record Lexed : Type 0 where
  pub tokens : List Lexeme
  pub fault : Option LexError

abbrev pub ended : Lexed
ended = record { tokens = []; fault = None }

abbrev pub failed : LexError → Lexed
failed error = record { tokens = []; fault = Some error }

abbrev pub ahead : Lexeme → Lexed → Lexed
ahead token after = record { tokens = token ∷ after.tokens; fault = after.fault }

-- what is answered where so much is left
abbrev pub answer_of : Lexed → Result (Option Lexeme) LexError
answer_of left = by left.tokens left.fault where
  by : List Lexeme → Option LexError → Result (Option Lexeme) LexError
  by (token ∷ tokens) fault = Ok (Some token)
  by [] None = Ok None
  by [] (Some error) = Err error

-- and what is left then: a token less
abbrev pub rest_of : Lexed → Lexed
rest_of left = record { tokens = drop 1 left.tokens; fault = left.fault }

-- how many bytes stand before a place, its line, and whether only blanks stand before it on its line
pub record Spot : Type 0 where
  pub start : ℕ
  pub line : ℕ
  pub fresh : Bool

-- the spot behind a byte, of a token or between tokens
abbrev pub past : ℕ → Spot → Spot
past byte spot =
    if is_blank byte then record {
      start = spot.start + 1;
      line = if byte == 10 then spot.line + 1 else spot.line;
      fresh = byte == 10 || spot.fresh;
    }
    else record { start = spot.start + 1; line = spot.line; fresh = false }

-- what begins with a byte: what is passed over, or a token, each with so many of the bytes after it; or neither
pub data Start : Type 0 where
  Passed : ℕ → Start
  Found : TokenKind → ℕ → Start
  Unknown : Start

-- whether a comment or a skipped line begins with the first of these bytes
abbrev pub passes_line : ℕ → List ℕ → Bool → Bool
passes_line first bytes fresh = first == 59 || (fresh && is_skipped bytes)

-- how many bytes behind a byte belong with it to what lies between tokens, where it does
abbrev pub gap_of : Bool → ℕ → List ℕ → Option ℕ
gap_of fresh first rest =
    if is_blank first then Some 0
    else if passes_line first (first ∷ rest) fresh then Some (prefix_len is_in_line rest)
    else None

abbrev pub start_of : Option ℕ → Option (TokenKind × ℕ) → Start
start_of (Some more) extent = Passed more
start_of None (Some (kind, more)) = Found kind more
start_of None None = Unknown

abbrev pub more_of : Start → ℕ
more_of (Passed more) = more
more_of (Found kind more) = more
more_of Unknown = 0

-- what is found at a spot, before what is found after it
abbrev pub found : Start → Spot → ℕ → List ℕ → Lexed → Lexed
found (Passed more) spot first rest after = after
found (Found kind more) spot first rest after =
    ahead (record { kind = kind; text = first ∷ take more rest; start = spot.start; line = spot.line }) after
found Unknown spot first rest after = failed (record { line = spot.line; at = spot.start })

-- the tokens from a spot on, where so many bytes are passed over first
unfoldable pub tokens_after : List ℕ → ℕ → Spot → Lexed
tokens_after [] passed spot = ended
tokens_after (first ∷ rest) (suc passed) spot = tokens_after rest passed (record spot { start = spot.start + 1 })
tokens_after (first ∷ rest) zero spot =
    let start = start_of (gap_of spot.fresh first rest) (extent_of first rest) in
    found start spot first rest (tokens_after rest (more_of start) (past first spot))

-- the front of a text
abbrev pub front : Spot
front = record { start = 0; line = 1; fresh = true }

abbrev pub tokens_of : List ℕ → Lexed
tokens_of text = tokens_after text 0 front
