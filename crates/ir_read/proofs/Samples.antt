-- Each class of tokens but the end and a bad place is that of some token.
use Rattle.std.proofs.Common.{◌≡◌, ℕ, Bool, true, false, List, [], ◌∷◌, map, refl, inl, inr}
use Rattle.std.specs.Prelude.{codes, All, ◌&&◌}
use Rattle.std.specs.List.{list_all}
use Rattle.std.proofs.lemmas.List.Elements.{All-cons, All-nil}
use Rattle.ir_lex.specs.declared.token.TokenKind.{TokenKind}
use Rattle.ir_lex.specs.declared.token.TokenKind.TheVariants as kinds
use Rattle.ir_lex.specs.Token.{is_token}
use Rattle.ir_read.specs.declared.terminal.Terminal.{Terminal}
use Rattle.ir_read.specs.declared.terminal.Terminal.TheVariants as t
use Rattle.ir_read.specs.Laws.{IsReal, is_final}
use Rattle.ir_read.specs.Node.{Lexeme}
use Rattle.ir_read.specs.Terminal.{terminal_of}
use Rattle.ir_read.specs.Words.{word_class}

pub text_of : Terminal → List ℕ
text_of t.Local = codes "%x"
text_of t.Global = codes "@x"
text_of t.OddGlobal = codes "@\"\""
text_of t.Label = codes "x:"
text_of t.Natural = codes "0"
text_of t.Negative = codes "-0"
text_of t.Wide = codes "18446744073709551616"
text_of t.WideNegative = codes "-18446744073709551616"
text_of t.Bytes = codes "c\"\""
text_of t.OddText = codes "\"\""
text_of t.MetadataName = codes "!x"
text_of t.MetadataNumber = codes "!0"
text_of t.AttributeGroup = codes "#0"
text_of t.Equals = codes "="
text_of t.Comma = codes ","
text_of t.Star = codes "*"
text_of t.LeftParen = codes "("
text_of t.RightParen = codes ")"
text_of t.LeftBracket = codes "["
text_of t.RightBracket = codes "]"
text_of t.LeftBrace = codes "{"
text_of t.RightBrace = codes "}"
text_of t.Less = codes "<"
text_of t.Greater = codes ">"
text_of t.Ellipsis = codes "..."
text_of t.OtherMark = codes "!"
text_of t.Skipped = codes "nsw"
text_of t.Align = codes "align"
text_of t.Dereferenceable = codes "dereferenceable"
text_of t.Captures = codes "captures"
text_of t.KeyNone = codes "none"
text_of t.KeyType = codes "type"
text_of t.KeyGlobal = codes "global"
text_of t.KeyDeclare = codes "declare"
text_of t.KeyDefine = codes "define"
text_of t.Int = codes "i8"
text_of t.Ptr = codes "ptr"
text_of t.Void = codes "void"
text_of t.KeyX = codes "x"
text_of t.KeyTo = codes "to"
text_of t.KeyLabel = codes "label"
text_of t.LiteralWord = codes "null"
text_of t.Binary = codes "or"
text_of t.Icmp = codes "icmp"
text_of t.Predicate = codes "eq"
text_of t.Cast = codes "zext"
text_of t.IntToPtr = codes "inttoptr"
text_of t.Select = codes "select"
text_of t.Phi = codes "phi"
text_of t.Alloca = codes "alloca"
text_of t.Load = codes "load"
text_of t.GetElementPtr = codes "getelementptr"
text_of t.Call = codes "call"
text_of t.Store = codes "store"
text_of t.Br = codes "br"
text_of t.Switch = codes "switch"
text_of t.Ret = codes "ret"
text_of t.Unreachable = codes "unreachable"
text_of t.OtherWord = codes "float"
text_of _ = []

pub kind_of : Terminal → TokenKind
kind_of t.Local = kinds.Local
kind_of t.Global = kinds.Global
kind_of t.OddGlobal = kinds.Global
kind_of t.Label = kinds.Label
kind_of t.Natural = kinds.Number
kind_of t.Negative = kinds.Number
kind_of t.Wide = kinds.Number
kind_of t.WideNegative = kinds.Number
kind_of t.Bytes = kinds.Text
kind_of t.OddText = kinds.Text
kind_of t.MetadataName = kinds.Meta
kind_of t.MetadataNumber = kinds.Meta
kind_of t.AttributeGroup = kinds.Meta
kind_of t.Equals = kinds.Mark
kind_of t.Comma = kinds.Mark
kind_of t.Star = kinds.Mark
kind_of t.LeftParen = kinds.Mark
kind_of t.RightParen = kinds.Mark
kind_of t.LeftBracket = kinds.Mark
kind_of t.RightBracket = kinds.Mark
kind_of t.LeftBrace = kinds.Mark
kind_of t.RightBrace = kinds.Mark
kind_of t.Less = kinds.Mark
kind_of t.Greater = kinds.Mark
kind_of t.Ellipsis = kinds.Mark
kind_of t.OtherMark = kinds.Mark
kind_of _ = kinds.Word

abbrev pub is_good : Terminal → Bool
is_good t.Bad = false
is_good _ = true

-- a token of the class
unfoldable pub spelled : Terminal → Lexeme
spelled terminal = record { terminal = terminal; text = text_of terminal; line = 0 }

pub class_has_token : (terminal : Terminal) → is_final terminal ≡ false →
    (kind : TokenKind) × (text : List ℕ) × (is_token kind text ≡ true) × (terminal_of kind text ≡ terminal)
unfolding text_of kind_of terminal_of word_class
class_has_token t.End final = cc
class_has_token t.Bad final = cc
class_has_token terminal final = (kind_of terminal, text_of terminal, refl, refl)

spelled_real : (terminal : Terminal) → is_good terminal ≡ true → IsReal (spelled terminal)
unfolding spelled text_of kind_of terminal_of word_class
spelled_real t.End good = inl refl
spelled_real t.Bad good = cc
spelled_real terminal good = inr (kind_of terminal, refl, refl)

and_both : (a b : Bool) → (a && b) ≡ true → (a ≡ true) × (b ≡ true)
and_both true true is = (refl, refl)
and_both _ _ is = cc

pub all_real : (terminals : List Terminal) → list_all is_good terminals ≡ true → All IsReal (map spelled terminals)
all_real [] good = All-nil IsReal
all_real (terminal ∷ terminals) good =
    let both = and_both (is_good terminal) (list_all is_good terminals) good in
    All-cons IsReal (spelled terminal) (map spelled terminals) (spelled_real terminal both.0) (all_real terminals both.1)
