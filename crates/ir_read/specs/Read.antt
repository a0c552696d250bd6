-- The reading of a module's tokens, and its first fault.
use Rattle.std.specs.Prelude.{ℕ, Bool, false, ◌&&◌, ◌||◌, List, [], ◌∷◌, ◌++◌, Option, Some, None, Result, Ok, Err, if◌then◌else◌}
use Rattle.ir_lex.specs.Token.{Lexeme as Token}
use Rattle.ir_read.specs.declared.error.ModuleError.{ModuleError}
use Rattle.ir_read.specs.declared.error.ModuleError.TheVariants as errors
use Rattle.ir_read.specs.declared.grammar.Rule.{Rule}
use Rattle.ir_read.specs.declared.read.Ending.{Ending}
use Rattle.ir_read.specs.declared.read.Ending.TheVariants as endings
use Rattle.ir_read.specs.declared.skip.Mode.{Mode}
use Rattle.ir_read.specs.declared.skip.Mode.TheVariants as m
use Rattle.ir_read.specs.declared.terminal.Terminal.{Terminal}
use Rattle.ir_read.specs.declared.terminal.Terminal.TheVariants as t
use Rattle.ir_read.specs.Cause.{ends_type, error_of}
use Rattle.ir_read.specs.Machine.{Fed, State, begun, fed, is_done}
use Rattle.ir_read.specs.Node.{Lexeme, Told, noted}
use Rattle.ir_read.specs.Skip.{drops_comma}
use Rattle.ir_read.specs.Terminal.{terminal_of}

-- ---- the tokens of a text, and what ends it

abbrev pub lexeme_of : Token → Lexeme
lexeme_of token = record { terminal = terminal_of token.kind token.text; text = token.text; line = token.line }

abbrev pub terminal_at : Ending → Terminal
terminal_at (endings.End line) = t.End
terminal_at (endings.Bad line) = t.Bad

abbrev pub line_at : Ending → ℕ
line_at (endings.End line) = line
line_at (endings.Bad line) = line

abbrev pub lexeme_at : Ending → Lexeme
lexeme_at ending = record { terminal = terminal_at ending; text = []; line = line_at ending }

abbrev pub lexemes_of : List Token → Ending → List Lexeme
lexemes_of [] ending = lexeme_at ending ∷ []
lexemes_of (token ∷ tokens) ending = lexeme_of token ∷ lexemes_of tokens ending

-- ---- a reading so far

-- with the state of the machine, whether the last token, skipped ones aside, ended a type, and what was kept
pub record Progress : Type 0 where
  pub state : State
  pub behind_type : Bool
  pub nodes : List Told

abbrev pub beginning : Progress
beginning = record { state = begun; behind_type = false; nodes = [] }

-- a comma that is held lies between the type and what follows
unfoldable pub directly_behind : Mode → Bool → Bool
directly_behind m.Comma behind_type = false
directly_behind mode behind_type = behind_type

unfoldable pub behind_after : Option Rule → Mode → Bool → Terminal → Bool
behind_after (Some rule) mode behind_type terminal = ends_type rule terminal
behind_after None mode behind_type terminal = directly_behind mode behind_type || (behind_type && drops_comma terminal)

abbrev pub put_by : Progress → Lexeme → Fed → Result Progress ModuleError
put_by progress token (Err refusal) =
    Err (error_of (directly_behind progress.state.mode progress.behind_type) refusal token.terminal token.line)
put_by progress token (Ok (taken, state)) =
    Ok (record {
      state = state;
      behind_type = behind_after taken progress.state.mode progress.behind_type token.terminal;
      nodes = progress.nodes ++ noted taken token;
    })

-- one token more
unfoldable pub put : Progress → Lexeme → Result Progress ModuleError
put progress token = put_by progress token (fed progress.state token.terminal)

-- what ends a text is read last, or refused; so other tokens alone come here unread
unfoldable pub finished : Progress → Result (List Told) ModuleError
finished progress = if is_done progress.state then Ok progress.nodes else Err (errors.Syntax 0)

abbrev pub go_on : Result Progress ModuleError → (Progress → Result (List Told) ModuleError) → Result (List Told) ModuleError
go_on (Ok progress) next = next progress
go_on (Err error) next = Err error

unfoldable pub read_from : Progress → List Lexeme → Result (List Told) ModuleError
read_from progress [] = finished progress
read_from progress (token ∷ tokens) = go_on (put progress token) (λ next. read_from next tokens)

-- what is kept of the tokens, or the first fault
abbrev pub raw_module_of : List Lexeme → Result (List Told) ModuleError
raw_module_of tokens = read_from beginning tokens
