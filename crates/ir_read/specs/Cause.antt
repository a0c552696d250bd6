-- Why a token is refused: Lexical where no token begins, Syntax at the end of the text, Unsupported at any word and
-- where the token shows a form of the LLVM language that is left out here, and else Syntax.
use Rattle.std.specs.Prelude.{ℕ, Bool, true, false, not, ◌&&◌, ◌||◌}
use Rattle.ir_read.specs.declared.error.ModuleError.{ModuleError}
use Rattle.ir_read.specs.declared.error.ModuleError.TheVariants as errors
use Rattle.ir_read.specs.declared.grammar.Rule.{Rule}
use Rattle.ir_read.specs.declared.grammar.Rule.TheVariants as r
use Rattle.ir_read.specs.declared.machine.Refusal.{Refusal}
use Rattle.ir_read.specs.declared.machine.Refusal.TheVariants as refusals
use Rattle.ir_read.specs.declared.skip.Mode.{Mode}
use Rattle.ir_read.specs.declared.skip.Mode.TheVariants as m
use Rattle.ir_read.specs.declared.terminal.Terminal.{Terminal}
use Rattle.ir_read.specs.declared.terminal.Terminal.TheVariants as t

-- names, numbers, strings, metadata and marks, and what ends a text
unfoldable pub is_other_token : Terminal → Bool
is_other_token t.Local = true
is_other_token t.Global = true
is_other_token t.OddGlobal = true
is_other_token t.Label = true
is_other_token t.Natural = true
is_other_token t.Negative = true
is_other_token t.Wide = true
is_other_token t.WideNegative = true
is_other_token t.Bytes = true
is_other_token t.OddText = true
is_other_token t.MetadataName = true
is_other_token t.MetadataNumber = true
is_other_token t.AttributeGroup = true
is_other_token t.Equals = true
is_other_token t.Comma = true
is_other_token t.Star = true
is_other_token t.Ellipsis = true
is_other_token t.OtherMark = true
is_other_token t.LeftParen = true
is_other_token t.RightParen = true
is_other_token t.LeftBracket = true
is_other_token t.RightBracket = true
is_other_token t.LeftBrace = true
is_other_token t.RightBrace = true
is_other_token t.Less = true
is_other_token t.Greater = true
is_other_token t.End = true
is_other_token t.Bad = true
is_other_token _ = false

unfoldable pub is_word : Terminal → Bool
is_word terminal = not (is_other_token terminal)

-- an array, struct, vector or named type
unfoldable pub is_other_type : Terminal → Bool
is_other_type t.LeftBracket = true
is_other_type t.LeftBrace = true
is_other_type t.Less = true
is_other_type t.Local = true
is_other_type _ = false

unfoldable pub is_ellipsis : Terminal → Bool
is_ellipsis t.Ellipsis = true
is_ellipsis _ = false

-- a literal of more than 64 bits
unfoldable pub is_wide_literal : Terminal → Bool
is_wide_literal t.Wide = true
is_wide_literal t.WideNegative = true
is_wide_literal _ = false

abbrev pub is_wide : Terminal → Bool
is_wide t.Wide = true
is_wide _ = false

abbrev pub is_local : Terminal → Bool
is_local t.Local = true
is_local _ = false

abbrev pub is_odd_global : Terminal → Bool
is_odd_global t.OddGlobal = true
is_odd_global _ = false

-- the token shows a left-out form where the rule is wanted
unfoldable pub is_mark_of : Rule → Terminal → Bool
is_mark_of r.ValueType terminal = is_other_type terminal
is_mark_of r.ResultType terminal = is_other_type terminal
is_mark_of r.ParameterType terminal = is_other_type terminal || is_ellipsis terminal
is_mark_of r.MoreParameters terminal = is_ellipsis terminal
is_mark_of r.PackedBrace terminal = true
is_mark_of r.Literal terminal = is_wide_literal terminal
is_mark_of r.Operand terminal = is_wide_literal terminal
is_mark_of r.Initializer terminal = is_wide_literal terminal
is_mark_of r.ArraySize terminal = is_wide terminal
is_mark_of r.Callee terminal = is_local terminal
is_mark_of r.CalleeName terminal = is_local terminal
is_mark_of r.DefinedName terminal = is_odd_global terminal
is_mark_of _ terminal = false

abbrev pub is_asterisk : Terminal → Bool
is_asterisk t.Star = true
is_asterisk _ = false

-- a `*` makes a pointer type of the type before it; within a packed struct a `}` ends none
unfoldable pub is_star : Rule → Terminal → Bool
is_star r.CloseType terminal = false
is_star _ terminal = is_asterisk terminal

-- a number of more than 64 bits in a skipped form
unfoldable pub is_wide_in : Mode → Terminal → Bool
is_wide_in m.AlignNumber terminal = is_wide terminal
is_wide_in m.DereferenceableNumber terminal = is_wide terminal
is_wide_in _ terminal = false

unfoldable pub is_left_out : Bool → Refusal → Terminal → Bool
is_left_out behind_type (refusals.Token rule) terminal = (behind_type && is_star rule terminal) || is_mark_of rule terminal
is_left_out behind_type refusals.Comma terminal = false
is_left_out behind_type (refusals.Form mode) terminal = is_wide_in mode terminal

abbrev pub unsupported_if : Bool → ℕ → ModuleError
unsupported_if true line = errors.Unsupported line
unsupported_if false line = errors.Syntax line

-- the error of a token, where the token directly before it ended a type or didn't
unfoldable pub error_of : Bool → Refusal → Terminal → ℕ → ModuleError
error_of behind_type refusal t.Bad line = errors.Lexical line
error_of behind_type refusal t.End line = errors.Syntax line
error_of behind_type refusal terminal line = unsupported_if (is_word terminal || is_left_out behind_type refusal terminal) line

-- what ends a type in memory, by its token
abbrev pub is_type_word : Terminal → Bool
is_type_word t.Int = true
is_type_word t.Ptr = true
is_type_word t.Local = true
is_type_word _ = false

abbrev pub is_right_brace : Terminal → Bool
is_right_brace t.RightBrace = true
is_right_brace _ = false

abbrev pub is_right_paren : Terminal → Bool
is_right_paren t.RightParen = true
is_right_paren _ = false

abbrev pub is_void : Terminal → Bool
is_void t.Void = true
is_void _ = false

-- the token that the rule took ends a type
unfoldable pub ends_type : Rule → Terminal → Bool
ends_type r.ValueType terminal = true
ends_type r.ResultType terminal = true
ends_type r.ParameterType terminal = true
ends_type r.CloseArray terminal = true
ends_type r.CloseType terminal = true
ends_type r.KeyPtr terminal = true
ends_type r.CloseWritten terminal = true
ends_type r.Type terminal = is_type_word terminal
ends_type r.Fields terminal = is_right_brace terminal
ends_type r.MoreFields terminal = is_right_brace terminal
ends_type r.Written terminal = is_right_paren terminal
ends_type r.MoreWritten terminal = is_right_paren terminal
ends_type r.Returned terminal = is_void terminal
ends_type _ terminal = false
