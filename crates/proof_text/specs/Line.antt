-- What a line of a clause, of a step or of a count spells.
use Rattle.std.specs.Prelude.{ℕ, ◌-◌, ◌^◌, ℤ, pos, ◌-ℤ◌, Bool, ◌==◌, ◌&&◌, nat_le, nat_lt, List, [], ◌∷◌, ◌++◌, codes, length, slice_index, Option, Some, None, if◌then◌else◌, option_and_then, option_map}
use Rattle.std.specs.Set.{distinct_count}
use Rattle.std.specs.Str.{bytes_eq}
use Rattle.text_lines.specs.Number.{number_of, one_number, two_numbers}
use Rattle.text_lines.specs.Part.{parts_of}
use Rattle.refutation.specs.Literal.{variables}
use Rattle.refutation.specs.Log.{LogStep, log_step}

-- the word `0`, which ends a clause and hints
abbrev pub is_end : List ℕ → Bool
is_end word = length word == 1 && slice_index word 0 == 48

abbrev pub within : ℕ → ℕ → Option ℕ
within most number = if nat_le 1 number && nat_le number most then Some number else None

-- the number from 1 to `most` that a word spells, where it spells one
unfoldable pub positive_of : ℕ → List ℕ → Option ℕ
positive_of most word = option_and_then (within most) (number_of word)

-- the literal over the variables 1 to `vars` that a word spells, where it spells one
unfoldable pub literal_of : ℕ → List ℕ → Option ℤ
literal_of vars [] = None
literal_of vars (byte ∷ rest) =
    if byte == 45 then option_map (λ n. pos 0 -ℤ pos n) (positive_of vars rest)
    else option_map pos (positive_of vars (byte ∷ rest))

-- literals behind those that were read, up to a `0`, and the words behind that
unfoldable pub literals_onto : ℕ → List ℤ → List (List ℕ) → Option (List ℤ × List (List ℕ))
literals_onto vars clause [] = None
literals_onto vars clause (word ∷ words) =
    if is_end word then Some (clause, words)
    else option_and_then (λ literal. literals_onto vars (clause ++ literal ∷ []) words) (literal_of vars word)

-- hints behind those that were read, up to a `0` at the end
unfoldable pub hints_onto : List ℕ → List (List ℕ) → Option (List ℕ)
hints_onto hints [] = None
hints_onto hints (word ∷ words) =
    if is_end word then (if length words == 0 then Some hints else None)
    else option_and_then (λ hint. hints_onto (hints ++ hint ∷ []) words) (positive_of (2 ^ 32 - 1) word)

-- whether no variable stands twice
abbrev pub are_distinct : List ℤ → Bool
are_distinct clause = distinct_count (λ a b. a == b) (variables clause) == length clause

-- literals in which no variable stands twice
abbrev pub if_distinct : List ℤ × List (List ℕ) → Option (List ℤ × List (List ℕ))
if_distinct read = if are_distinct read.0 then Some read else None

-- the clause that words begin with, and the words behind it
unfoldable pub clause_in : ℕ → List (List ℕ) → Option (List ℤ × List (List ℕ))
clause_in vars words = option_and_then if_distinct (literals_onto vars [] words)

abbrev pub if_alone : List ℤ × List (List ℕ) → Option (List ℤ)
if_alone read = if length read.1 == 0 then Some read.0 else None

-- the clause that a line spells
unfoldable pub clause_of_line : ℕ → List ℕ → Option (List ℤ)
clause_of_line vars line = option_and_then if_alone (clause_in vars (parts_of 32 line))

abbrev pub with_hints : List ℤ × List (List ℕ) → Option LogStep
with_hints read = option_map (λ hints. log_step read.0 hints) (hints_onto [] read.1)

-- the step that a line spells
unfoldable pub step_of_line : ℕ → List ℕ → Option LogStep
step_of_line vars line = option_and_then with_hints (clause_in vars (parts_of 32 line))

-- the words behind a keyword
abbrev pub behind : List ℕ → List (List ℕ) → Option (List (List ℕ))
behind keyword [] = None
behind keyword (word ∷ words) = if bytes_eq word keyword then Some words else None

abbrev pub below : ℕ → ℕ → Option ℕ
below limit number = if nat_lt number limit then Some number else None

-- the number below 2^32 behind a keyword
unfoldable pub one_behind : List ℕ → List ℕ → Option ℕ
one_behind keyword line =
    option_and_then (below (2 ^ 32)) (option_and_then one_number (behind keyword (parts_of 32 line)))

abbrev pub sizes : ℕ × ℕ → Option (ℕ × ℕ)
sizes numbers = if nat_lt numbers.0 (2 ^ 31) && nat_lt numbers.1 (2 ^ 32) then Some numbers else None

-- how many variables a formula has, and how many clauses
unfoldable pub formula_of_line : List ℕ → Option (ℕ × ℕ)
formula_of_line line =
    option_and_then sizes (option_and_then two_numbers (behind (codes "formula") (parts_of 32 line)))
