-- The items of the module that a text spells.
use Rattle.std.specs.Prelude.{ℕ, ◌+◌, ◌-◌, ◌==◌, List, length, take, count_by, Option, Some, None, Result}
use Rattle.ir_lex.specs.declared.token.LexError.{LexError}
use Rattle.ir_lex.specs.Lexer.{Lexed, tokens_of}
use Rattle.ir_read.specs.declared.error.ModuleError.{ModuleError}
use Rattle.ir_read.specs.declared.read.Ending.{Ending}
use Rattle.ir_read.specs.declared.read.Ending.TheVariants as endings
use Rattle.ir_read.specs.Node.{Lexeme, Told}
use Rattle.ir_read.specs.Read.{lexemes_of, raw_module_of}

-- the line in which a text ends; a last line feed ends its line, and begins none
abbrev pub last_line : List ℕ → ℕ
last_line text = count_by (λ byte. byte == 10) (take (length text - 1) text) + 1

-- what comes behind the tokens of a text with such a last line
abbrev pub ending_of : ℕ → Option LexError → Ending
ending_of last None = endings.End last
ending_of last (Some error) = endings.Bad error.line

-- what is left of a text with such a last line, as the grammar sees it
abbrev pub lexemes_left : ℕ → Lexed → List Lexeme
lexemes_left last left = lexemes_of left.tokens (ending_of last left.fault)

-- what is kept of a text, or its first fault
abbrev pub raw_module_in : List ℕ → Result (List Told) ModuleError
raw_module_in text = raw_module_of (lexemes_left (last_line text) (tokens_of text))
