-- The words of a line of an input, and of a line of a watched site.
use Rattle.std.specs.Prelude.{ℕ, ◌^◌, Bool, not, ◌&&◌, ◌||◌, ◌==◌, nat_lt, List, [], ◌∷◌, length, Option, None, if◌then◌else◌, option_map}
use Rattle.std.specs.Char.{is_ascii_alphanumeric}
use Rattle.std.specs.List.{list_all}
use Rattle.case_text.specs.declared.words.InputWords.{InputWords}
use Rattle.text_lines.specs.Number.{one_number}

-- a function's name, and a number of an instruction in it
pub record Watched : Type 0 where
  pub name : List ℕ
  pub inst : ℕ

abbrev pub watched : List ℕ → ℕ → Watched
watched name inst = record { name = name; inst = inst }

-- letters, digits, `$`, `.`, `_` and `-`
abbrev pub is_name_byte : ℕ → Bool
is_name_byte byte = is_ascii_alphanumeric byte || byte == 36 || byte == 46 || byte == 95 || byte == 45

-- a name as it stands without quotes
abbrev pub is_plain : List ℕ → Bool
is_plain name = not (length name == 0) && list_all is_name_byte name

-- `FUNCTION INST`
abbrev pub watch_words : List (List ℕ) → Option Watched
watch_words [] = None
watch_words (name ∷ words) = if is_plain name then option_map (watched name) (one_number words) else None

abbrev pub is_width : ℕ → Bool
is_width width = width == 8 || width == 16 || width == 32 || width == 64

abbrev pub is_input : InputWords → Bool
is_input words = nat_lt words.slot (2 ^ 16) && is_width words.width && nat_lt words.value (2 ^ words.width)
