-- What a token is: its kind, and the whole of its text.
use Rattle.std.specs.Prelude.{ℕ, Bool, false, ◌||◌, ◌&&◌, ◌==◌, List, [], ◌∷◌}
use Rattle.std.specs.Char.{is_ascii_digit, is_ascii_alphabetic}
use Rattle.std.specs.List.{list_all}
use Rattle.ir_lex.specs.declared.token.TokenKind.{TokenKind}
use Rattle.ir_lex.specs.declared.token.TokenKind.TheVariants as kinds
use Rattle.ir_lex.specs.Bytes.{is_mark, is_word_byte, is_name_byte, is_inside}

-- a token's kind, all of its bytes, how many bytes stand before it, and its line
pub record Lexeme : Type 0 where
  pub kind : TokenKind
  pub text : List ℕ
  pub start : ℕ
  pub line : ℕ

-- one byte or more, each of which passes
abbrev pub is_some_of : (ℕ → Bool) → List ℕ → Bool
is_some_of passes [] = false
is_some_of passes (first ∷ rest) = passes first && list_all passes rest

-- the byte, and then a text that passes
abbrev pub begins : ℕ → (List ℕ → Bool) → List ℕ → Bool
begins byte passes [] = false
begins byte passes (first ∷ rest) = first == byte && passes rest

-- a text that passes, and then the byte
abbrev pub ends : ℕ → (List ℕ → Bool) → List ℕ → Bool
ends byte passes [] = false
ends byte passes (first ∷ []) = passes [] && first == byte
ends byte passes (first ∷ second ∷ rest) = ends byte (λ front. passes (first ∷ front)) (second ∷ rest)

-- a quote, bytes without quotes and line feeds, and a quote
abbrev pub is_quoted : List ℕ → Bool
is_quoted text = begins 34 (ends 34 (list_all is_inside)) text

abbrev pub is_name : List ℕ → Bool
is_name text = is_some_of is_name_byte text || is_quoted text

abbrev pub is_word : List ℕ → Bool
is_word [] = false
is_word (first ∷ rest) = is_ascii_alphabetic first && list_all is_word_byte rest

-- one mark, or three dots
abbrev pub is_mark_text : List ℕ → Bool
is_mark_text [] = false
is_mark_text (first ∷ []) = is_mark first
is_mark_text (first ∷ second ∷ []) = false
is_mark_text (first ∷ second ∷ third ∷ []) = first == 46 && second == 46 && third == 46
is_mark_text (first ∷ second ∷ third ∷ fourth ∷ rest) = false

-- whether the text is a token of the kind
abbrev pub is_token : TokenKind → List ℕ → Bool
is_token kinds.Local text = begins 37 is_name text
is_token kinds.Global text = begins 64 is_name text
is_token kinds.Label text = ends 58 is_name text
is_token kinds.Word text = is_word text
is_token kinds.Number text = is_some_of is_ascii_digit text || begins 45 (is_some_of is_ascii_digit) text
is_token kinds.Text text = is_quoted text || begins 99 is_quoted text
is_token kinds.Meta text = begins 33 (is_some_of is_word_byte) text || begins 35 (is_some_of is_ascii_digit) text
is_token kinds.Mark text = is_mark_text text
