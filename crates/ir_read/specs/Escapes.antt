-- The bytes that strings spell: a backslash and two hexadecimal digits spell the byte of that number, two backslashes
-- spell one, and any other byte spells itself.
use Rattle.std.specs.Prelude.{ℕ, ◌+◌, ◌-◌, ◌*◌, ◌%◌, ◌==◌, Bool, ◌&&◌, nat_le, List, [], ◌∷◌, length, take, drop, Option, Some, None, if◌then◌else◌}
use Rattle.ir_read.specs.declared.escapes.Begun.{Begun}
use Rattle.ir_read.specs.declared.escapes.Begun.TheVariants.{Nothing, Backslash, High}

abbrev pub is_from_to : ℕ → ℕ → ℕ → Bool
is_from_to least greatest byte = nat_le least byte && nat_le byte greatest

-- the value of a hexadecimal digit, and 0 of any other byte
abbrev pub digit_of : ℕ → ℕ
digit_of byte =
    if is_from_to 48 57 byte then byte - 48
    else if is_from_to 97 102 byte then byte - 97 + 10
    else if is_from_to 65 70 byte then byte - 65 + 10
    else 0

-- the byte that is whole with one more of the text
abbrev pub whole_at : Begun → ℕ → Option ℕ
whole_at Nothing byte = if byte == 92 then None else Some byte
whole_at Backslash byte = if byte == 92 then Some byte else None
whole_at (High high) byte = Some ((16 * high + digit_of byte) % 256)

abbrev pub behind : Begun → ℕ → Begun
behind Nothing byte = if byte == 92 then Backslash else Nothing
behind Backslash byte = if byte == 92 then Nothing else High (digit_of byte)
behind (High high) byte = Nothing

abbrev pub put : Option ℕ → List ℕ → List ℕ
put None bytes = bytes
put (Some byte) bytes = byte ∷ bytes

-- what a text spells behind the front of an escape
abbrev pub decoded : Begun → List ℕ → List ℕ
decoded begun [] = []
decoded begun (byte ∷ text) = put (whole_at begun byte) (decoded (behind begun byte) text)

-- what stands between the quotes behind `c`
abbrev pub quoted : List ℕ → List ℕ
quoted text = take (length text - 3) (drop 2 text)

abbrev pub bytes_of_string : List ℕ → List ℕ
bytes_of_string text = decoded Nothing (quoted text)
