-- The classes of bytes in a module's text.
use Rattle.std.specs.Prelude.{ℕ, Bool, not, ◌||◌, ◌&&◌, ◌==◌}
use Rattle.std.specs.Char.{is_ascii_alphanumeric}

-- space, tab, carriage return
abbrev pub is_space : ℕ → Bool
is_space byte = byte == 32 || byte == 9 || byte == 13

-- the same and the line feed
abbrev pub is_blank : ℕ → Bool
is_blank byte = is_space byte || byte == 10

-- ( ) [ ] { } < >
abbrev pub is_bracket : ℕ → Bool
is_bracket byte =
    byte == 40 || byte == 41 || byte == 91 || byte == 93 || byte == 123 || byte == 125 || byte == 60 || byte == 62

-- a bracket, or one of = , * ! |
abbrev pub is_mark : ℕ → Bool
is_mark byte = is_bracket byte || (byte == 61 || byte == 44 || byte == 42 || byte == 33 || byte == 124)

-- a letter, a digit, _ or .
abbrev pub is_word_byte : ℕ → Bool
is_word_byte byte = is_ascii_alphanumeric byte || byte == 95 || byte == 46

-- a byte of a word, $ or -
abbrev pub is_name_byte : ℕ → Bool
is_name_byte byte = is_word_byte byte || byte == 36 || byte == 45

-- a byte between quotes: all but the quote and the line feed
abbrev pub is_inside : ℕ → Bool
is_inside byte = not (byte == 34) && not (byte == 10)

abbrev pub is_in_line : ℕ → Bool
is_in_line byte = not (byte == 10)
