-- Lines as their words.
use Rattle.std.specs.Prelude.{ℕ, List, [], ◌∷◌, codes}
use Rattle.std.specs.List.{join_with_byte}

-- words parted by one space, `-` for none
abbrev pub words_text : List (List ℕ) → List ℕ
words_text [] = codes "-"
words_text (word ∷ words) = join_with_byte 32 (word ∷ words)
