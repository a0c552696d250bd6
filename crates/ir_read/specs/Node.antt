-- Tokens by their classes, and what is kept of them.
use Rattle.std.specs.Prelude.{ℕ, Bool, true, false, List, [], ◌∷◌, Option, Some, None, if◌then◌else◌}
use Rattle.ir_read.specs.declared.grammar.Rule.{Rule}
use Rattle.ir_read.specs.declared.terminal.Terminal.{Terminal}
use Rattle.ir_read.specs.declared.terminal.Terminal.TheVariants as t

-- a token, or what ends a text
pub record Lexeme : Type 0 where
  pub terminal : Terminal
  pub text : List ℕ
  pub line : ℕ

-- a token of an item, with the rule that took it
pub record Told : Type 0 where
  pub rule : Rule
  pub terminal : Terminal
  pub text : List ℕ
  pub line : ℕ

-- commas and the end of the text are not kept
unfoldable pub is_kept : Terminal → Bool
is_kept t.Comma = false
is_kept t.End = false
is_kept _ = true

abbrev pub node : Rule → Lexeme → Told
node rule token = record { rule = rule; terminal = token.terminal; text = token.text; line = token.line }

-- what a rule keeps of a token
unfoldable pub told : Rule → Lexeme → List Told
told rule token = if is_kept token.terminal then node rule token ∷ [] else []

-- the same, where a rule took it
unfoldable pub noted : Option Rule → Lexeme → List Told
noted None token = []
noted (Some rule) token = told rule token
