-- How far the longest token at a place goes, by its first byte.
use Rattle.std.specs.Prelude.{ℕ, ◌+◌, not, ◌&&◌, ◌==◌, List, [], ◌∷◌, slice_index, Option, Some, None, if◌then◌else◌}
use Rattle.std.specs.Char.{is_ascii_digit, is_ascii_alphabetic}
use Rattle.std.specs.List.{prefix_len}
use Rattle.ir_lex.specs.declared.token.TokenKind.{TokenKind}
use Rattle.ir_lex.specs.declared.token.TokenKind.TheVariants as kinds
use Rattle.ir_lex.specs.Bytes.{is_mark, is_word_byte, is_name_byte, is_inside}

-- how long a quoted text still is after its first quote, with the last one; 0 where it isn't closed on its line
abbrev pub closed_len : List ℕ → ℕ
closed_len rest = let inside = prefix_len is_inside rest in if slice_index rest inside == 34 then inside + 1 else 0

-- how long the quoted text at the front is, with its quotes; 0 where there is none
abbrev pub quoted_len : List ℕ → ℕ
quoted_len [] = 0
quoted_len (first ∷ rest) = if first == 34 && not (closed_len rest == 0) then closed_len rest + 1 else 0

-- how long the name at the front is, quoted or plain; 0 where there is none
abbrev pub name_len : List ℕ → ℕ
name_len bytes = if quoted_len bytes == 0 then prefix_len is_name_byte bytes else quoted_len bytes

-- a token of a first byte and of so many more, of which there have to be some
abbrev pub with_more : TokenKind → ℕ → Option (TokenKind × ℕ)
with_more kind more = if more == 0 then None else Some (kind, more)

-- what `c` begins that is no label
abbrev pub c_extent : List ℕ → TokenKind × ℕ
c_extent rest = if quoted_len rest == 0 then (kinds.Word, prefix_len is_word_byte rest) else (kinds.Text, quoted_len rest)

-- what a byte of a plain name begins that is no label
abbrev pub unlabelled_extent : ℕ → List ℕ → Option (TokenKind × ℕ)
unlabelled_extent first rest =
    if is_ascii_digit first then Some (kinds.Number, prefix_len is_ascii_digit rest)
    else if first == 99 then Some (c_extent rest)
    else if is_ascii_alphabetic first then Some (kinds.Word, prefix_len is_word_byte rest)
    else if first == 45 then with_more kinds.Number (prefix_len is_ascii_digit rest)
    else if first == 46 && slice_index rest 0 == 46 && slice_index rest 1 == 46 then Some (kinds.Mark, 2)
    else None

-- what a byte of a plain name begins
abbrev pub plain_extent : ℕ → List ℕ → Option (TokenKind × ℕ)
plain_extent first rest =
    let run = prefix_len is_name_byte rest in
    if slice_index rest run == 58 then Some (kinds.Label, run + 1) else unlabelled_extent first rest

-- what a quote begins
abbrev pub quote_extent : List ℕ → Option (TokenKind × ℕ)
quote_extent rest =
    let closed = closed_len rest in
    if closed == 0 then None
    else if slice_index rest closed == 58 then Some (kinds.Label, closed + 1)
    else Some (kinds.Text, closed)

-- what `!` begins
abbrev pub bang_extent : List ℕ → Option (TokenKind × ℕ)
bang_extent rest =
    let more = prefix_len is_word_byte rest in
    if more == 0 then Some (kinds.Mark, 0) else Some (kinds.Meta, more)

-- The kind of the longest token that begins with a byte, and how many of the bytes after it belong to it.
unfoldable pub extent_of : ℕ → List ℕ → Option (TokenKind × ℕ)
extent_of first rest =
    if is_name_byte first then plain_extent first rest
    else if first == 34 then quote_extent rest
    else if first == 37 then with_more kinds.Local (name_len rest)
    else if first == 64 then with_more kinds.Global (name_len rest)
    else if first == 33 then bang_extent rest
    else if first == 35 then with_more kinds.Meta (prefix_len is_ascii_digit rest)
    else if is_mark first then Some (kinds.Mark, 0)
    else None
