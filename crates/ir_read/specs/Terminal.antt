-- The classes of tokens, as the grammar of modules tells them apart: by a token's kind, and by its bytes.
use Rattle.std.specs.Prelude.{ℕ, ◌-◌, ◌%◌, ◌^◌, Bool, true, false, ◌&&◌, ◌||◌, List, [], ◌∷◌, Option, Some, None, option_map, drop, slice_index, is_some, ◌==◌, nat_lt, if◌then◌else◌, codes}
use Rattle.std.specs.Char.{is_ascii_digit, is_ascii_alphanumeric, is_ascii_hexdigit}
use Rattle.std.specs.List.{list_all, list_any}
use Rattle.std.specs.Str.Parse.{digits_value}
use Rattle.ir_lex.specs.declared.token.TokenKind.{TokenKind}
use Rattle.ir_lex.specs.declared.token.TokenKind.TheVariants as kinds
use Rattle.ir_read.specs.declared.terminal.Escape.{Escape}
use Rattle.ir_read.specs.declared.terminal.Escape.TheVariants as escapes
use Rattle.ir_read.specs.declared.terminal.Terminal.{Terminal}
use Rattle.ir_read.specs.declared.terminal.Terminal.TheVariants as t
use Rattle.ir_read.specs.Words.{class_in, word_class}

-- ---- names

-- a letter, a digit, $, ., _ or -
abbrev pub is_name_byte : ℕ → Bool
is_name_byte byte = is_ascii_alphanumeric byte || byte == 36 || byte == 46 || byte == 95 || byte == 45

abbrev pub is_plain_or_quote : ℕ → Bool
is_plain_or_quote byte = byte == 34 || is_name_byte byte

-- bytes of plain names alone, quotes aside, and at least one: of a token's name, that it is plain, with or without quotes
-- round it, and not empty
abbrev pub is_plain : List ℕ → Bool
is_plain name = list_all is_plain_or_quote name && list_any is_name_byte name

-- the first byte is the sigil
abbrev pub global_class : List ℕ → Terminal
global_class text = if is_plain (drop 1 text) then t.Global else t.OddGlobal

-- ---- numbers

-- the number that the digits write, if it is below 2^64
abbrev pub number_of : List ℕ → Option ℕ
number_of digits =
    if list_all is_ascii_digit digits && nat_lt (digits_value 10 digits) (2 ^ 64)
    then Some (digits_value 10 digits)
    else None

-- a literal modulo 2^64, whose number without its sign is below 2^64
abbrev pub literal_of : List ℕ → Option ℕ
literal_of text =
    if slice_index text 0 == 45
    then option_map (λ number. (2 ^ 64 - number) % 2 ^ 64) (number_of (drop 1 text))
    else number_of text

abbrev pub fits_word : List ℕ → Bool
fits_word digits = is_some (number_of digits)

abbrev pub signed_class : List ℕ → Terminal
signed_class digits = if fits_word digits then t.Negative else t.WideNegative

abbrev pub unsigned_class : List ℕ → Terminal
unsigned_class digits = if fits_word digits then t.Natural else t.Wide

abbrev pub number_class : List ℕ → Terminal
number_class text = if slice_index text 0 == 45 then signed_class (drop 1 text) else unsigned_class text

-- ---- strings

-- where a string stands after a byte: a backslash is followed by a backslash or by two hexadecimal digits
abbrev pub after_byte : Escape → ℕ → Option Escape
after_byte escapes.Outside byte = if byte == 92 then Some escapes.Backslash else Some escapes.Outside
after_byte escapes.Backslash byte =
    if byte == 92 then Some escapes.Outside
    else if is_ascii_hexdigit byte then Some escapes.Digit
    else None
after_byte escapes.Digit byte = if is_ascii_hexdigit byte then Some escapes.Outside else None

abbrev pub goes_on : Option Escape → (Escape → Bool) → Bool
goes_on None next = false
goes_on (Some escape) next = next escape

-- a quoted text, whose quotes stand in no escape
abbrev pub are_escapes_whole : Escape → List ℕ → Bool
are_escapes_whole escape [] = true
are_escapes_whole escape (byte ∷ rest) = goes_on (after_byte escape byte) (λ next. are_escapes_whole next rest)

abbrev pub quoted_class : List ℕ → Terminal
quoted_class quoted = if are_escapes_whole escapes.Outside quoted then t.Bytes else t.OddText

abbrev pub string_class : List ℕ → Terminal
string_class text = if slice_index text 0 == 99 then quoted_class (drop 1 text) else t.OddText

-- ---- metadata, attribute groups and marks

abbrev pub exclamation_class : List ℕ → Terminal
exclamation_class name = if list_all is_ascii_digit name then t.MetadataNumber else t.MetadataName

abbrev pub metadata_class : List ℕ → Terminal
metadata_class text = if slice_index text 0 == 35 then t.AttributeGroup else exclamation_class (drop 1 text)

abbrev pub marks : List (List ℕ × Terminal)
marks =
    (codes "=", t.Equals) ∷ (codes ",", t.Comma) ∷ (codes "*", t.Star) ∷ (codes "(", t.LeftParen)
    ∷ (codes ")", t.RightParen) ∷ (codes "[", t.LeftBracket) ∷ (codes "]", t.RightBracket)
    ∷ (codes "{", t.LeftBrace) ∷ (codes "}", t.RightBrace) ∷ (codes "<", t.Less) ∷ (codes ">", t.Greater)
    ∷ (codes "...", t.Ellipsis) ∷ []

abbrev pub mark_class : List ℕ → Terminal
mark_class text = class_in t.OtherMark marks text

-- ---- all tokens

unfoldable pub terminal_of : TokenKind → List ℕ → Terminal
terminal_of kinds.Local text = t.Local
terminal_of kinds.Global text = global_class text
terminal_of kinds.Label text = t.Label
terminal_of kinds.Word text = word_class text
terminal_of kinds.Number text = number_class text
terminal_of kinds.Text text = string_class text
terminal_of kinds.Meta text = metadata_class text
terminal_of kinds.Mark text = mark_class text
