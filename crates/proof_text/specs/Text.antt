-- The text of proofs, line by line.
use Rattle.std.specs.Prelude.{ℕ, ℤ, List, [], ◌∷◌, ◌++◌, codes, decimal, length, map}
use Rattle.std.specs.Fmt.{signed_decimal}
use Rattle.std.specs.List.{flat_map, join_with_byte}
use Rattle.text_lines.specs.Part.{lines_text}
use Rattle.proof_text.specs.Entry.{Entry}
use Rattle.refutation.specs.Log.{LogStep}

-- words, parted by one space each
abbrev pub words_text : List (List ℕ) → List ℕ
words_text words = join_with_byte 32 words

-- a keyword, and numbers behind it
abbrev pub numbers_line : List ℕ → List ℕ → List ℕ
numbers_line keyword numbers = words_text (keyword ∷ map decimal numbers)

-- the literals, and a 0
abbrev pub clause_words : List ℤ → List (List ℕ)
clause_words clause = map signed_decimal clause ++ codes "0" ∷ []

-- the hints, and a 0
abbrev pub hint_words : List ℕ → List (List ℕ)
hint_words hints = map decimal hints ++ codes "0" ∷ []

unfoldable pub clause_line : List ℤ → List ℕ
clause_line clause = words_text (clause_words clause)

unfoldable pub step_line : LogStep → List ℕ
step_line step = words_text (clause_words step.clause ++ hint_words step.hints)

abbrev pub formula_lines : ℕ → List (List ℤ) → List (List ℕ)
formula_lines vars clauses = numbers_line (codes "formula") (vars ∷ length clauses ∷ []) ∷ map clause_line clauses

abbrev pub log_lines : List LogStep → List (List ℕ)
log_lines steps = numbers_line (codes "log") (length steps ∷ []) ∷ map step_line steps

-- the lines of a proof
unfoldable pub entry_lines : Entry → List (List ℕ)
entry_lines entry =
    numbers_line (codes "proof") (entry.race ∷ [])
    ∷ formula_lines entry.vars entry.clauses ++ log_lines entry.steps

unfoldable pub proofs_text : List Entry → List ℕ
proofs_text entries = lines_text (codes "portend-proofs 1" ∷ flat_map entry_lines entries ++ codes "end" ∷ [])
