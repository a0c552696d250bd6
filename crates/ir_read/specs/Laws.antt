-- What it means that tokens are a module, and which token is the first fault.
use Rattle.std.specs.Prelude.{◌≡◌, ℕ, zero, suc, ◌+◌, ◌<◌, ◌≤◌, ◌⊎◌, Bool, true, false, List, [], ◌∷◌, ◌++◌, length, take, All, Option, Some, None}
use Rattle.ir_lex.specs.declared.token.TokenKind.{TokenKind}
use Rattle.ir_lex.specs.Token.{is_token}
use Rattle.ir_read.specs.declared.error.ModuleError.{ModuleError}
use Rattle.ir_read.specs.declared.grammar.Rule.{Rule}
use Rattle.ir_read.specs.declared.grammar.Rule.TheVariants as r
use Rattle.ir_read.specs.declared.machine.Refusal.{Refusal}
use Rattle.ir_read.specs.declared.skip.Mode.{Mode}
use Rattle.ir_read.specs.declared.skip.Mode.TheVariants as m
use Rattle.ir_read.specs.declared.terminal.Terminal.{Terminal}
use Rattle.ir_read.specs.declared.terminal.Terminal.TheVariants as t
use Rattle.ir_read.specs.Cause.{error_of}
use Rattle.ir_read.specs.Grammar.{otherwise, row}
use Rattle.ir_read.specs.Node.{Lexeme, Told, told}
use Rattle.ir_read.specs.Skip.{drops_comma, is_comma, skip_of, skip_row}
use Rattle.ir_read.specs.Terminal.{terminal_of}

-- What is wanted is there, token by token: the first rule begins with the token, and what follows it is wanted; or
-- the rule stands for others.
pub data Parses : List Rule → List Lexeme → List Told → Type 0 where
  Nothing : Parses [] [] []
  Takes : {rule : Rule} {wants more : List Rule} {token : Lexeme} {tokens : List Lexeme} {nodes : List Told} →
      row rule token.terminal ≡ Some more → Parses (more ++ wants) tokens nodes →
      Parses (rule ∷ wants) (token ∷ tokens) (told rule token ++ nodes)
  Stands : {rule : Rule} {wants more : List Rule} {token : Lexeme} {tokens : List Lexeme} {nodes : List Told} →
      row rule token.terminal ≡ None → otherwise rule ≡ Some more → Parses (more ++ wants) (token ∷ tokens) nodes →
      Parses (rule ∷ wants) (token ∷ tokens) nodes

-- The tokens without the skipped ones. Within a skipped form, what is left of it comes first. A comma before
-- `align` or `!name` is skipped with it.
pub data Bare : Mode → List Lexeme → List Lexeme → Type 0 where
  Ends : Bare m.Free [] []
  Keeps : {token : Lexeme} {tokens bare : List Lexeme} → is_comma token.terminal ≡ false → skip_of token.terminal ≡ None →
      Bare m.Free tokens bare → Bare m.Free (token ∷ tokens) (token ∷ bare)
  Skips : {mode : Mode} {token : Lexeme} {tokens bare : List Lexeme} → skip_of token.terminal ≡ Some mode →
      Bare mode tokens bare → Bare m.Free (token ∷ tokens) bare
  Passes : {mode next : Mode} {token : Lexeme} {tokens bare : List Lexeme} → skip_row mode token.terminal ≡ Some next →
      Bare next tokens bare → Bare mode (token ∷ tokens) bare
  Keeps_comma : {comma token : Lexeme} {tokens bare : List Lexeme} → comma.terminal ≡ t.Comma → drops_comma token.terminal ≡ false →
      Bare m.Free (token ∷ tokens) bare → Bare m.Free (comma ∷ token ∷ tokens) (comma ∷ bare)
  Drops_comma : {comma token : Lexeme} {tokens bare : List Lexeme} → comma.terminal ≡ t.Comma → drops_comma token.terminal ≡ true →
      Bare m.Free (token ∷ tokens) bare → Bare m.Free (comma ∷ token ∷ tokens) bare

-- the tokens, with the end of their text, are the items of a module, of which this is kept
pub record Reads (tokens : List Lexeme) (nodes : List Told) : Type 0 where
  pub bare : List Lexeme
  pub skipped : Bare m.Free tokens bare
  pub parsed : Parses (r.Items ∷ []) bare nodes

abbrev pub Accepted : List Lexeme → Type 0
Accepted tokens = (nodes : List Told) × Reads tokens nodes

-- the end of a text, or a token of a kind, by the text that it has
abbrev pub IsReal : Lexeme → Type 0
IsReal token =
    (token.terminal ≡ t.End)
    ⊎ ((kind : TokenKind) × (is_token kind token.text ≡ true) × (terminal_of kind token.text ≡ token.terminal))

-- with some tokens behind them these are a module
pub record Begins (tokens : List Lexeme) : Type 0 where
  pub rest : List Lexeme
  pub real : All IsReal rest
  pub whole : Accepted (tokens ++ rest)

-- the least place such that no module begins with the tokens up to there and the one there
pub record IsFirstFault (tokens : List Lexeme) (place : ℕ) : Type 0 where
  pub within : place ≤ length tokens
  pub before : Begins (take place tokens)
  pub here : place < length tokens → ¬ Begins (take (place + 1) tokens)
  pub none : ¬ Accepted tokens

-- ---- the error of a text

abbrev pub is_final : Terminal → Bool
is_final t.End = true
is_final t.Bad = true
is_final _ = false

-- tokens, and then the end of a text or a place where no token begins
abbrev pub IsText : List Lexeme → Type 0
IsText [] = ⊥
IsText (last ∷ []) = is_final last.terminal ≡ true
IsText (token ∷ next ∷ tokens) = IsText (next ∷ tokens)

-- the token at the place
abbrev pub token_at : List Lexeme → ℕ → Option Lexeme
token_at [] place = None
token_at (token ∷ tokens) zero = Some token
token_at (token ∷ tokens) (suc place) = token_at tokens place

-- the error is one that some rule gives to a token of its class, in its line; at marks, names, numbers and texts that is
-- either of two, of which the definition takes one
abbrev pub IsErrorAt : ModuleError → Option Lexeme → Type 0
IsErrorAt error None = ⊥
IsErrorAt error (Some token) = (behind_type : Bool) × (refusal : Refusal) × (error ≡ error_of behind_type refusal token.terminal token.line)

-- the error of the first fault
pub record IsErrorOf (error : ModuleError) (tokens : List Lexeme) : Type 0 where
  pub place : ℕ
  pub first : IsFirstFault tokens place
  pub error_is : IsErrorAt error (token_at tokens place)
