-- The phrases of an instruction by their places. Where there is none it is empty.
use Rattle.std.specs.Prelude.{ℕ, List, [], ◌∷◌}
use Rattle.ir_types.specs.declared.word.Kind.{Kind}
use Rattle.ir_types.specs.declared.word.Kind.TheVariants.{Ptr}
use Rattle.ir_read.specs.Node.{Told}
use Rattle.instruction_check.specs.Literals.{kind_of}

abbrev pub first : List (List Told) → List Told
first [] = []
first (phrase ∷ phrases) = phrase

abbrev pub behind : List (List Told) → List (List Told)
behind [] = []
behind (phrase ∷ phrases) = phrases

abbrev pub behind_two : List (List Told) → List (List Told)
behind_two phrases = behind (behind phrases)

abbrev pub second : List (List Told) → List Told
second phrases = first (behind phrases)

abbrev pub third : List (List Told) → List Told
third phrases = first (behind_two phrases)

abbrev pub fourth : List (List Told) → List Told
fourth phrases = first (behind (behind_two phrases))

-- what a register of the type holds that a phrase spells
abbrev pub kind_in : List Told → Kind
kind_in [] = Ptr
kind_in (node ∷ rest) = kind_of node

-- the text of a phrase of one word
abbrev pub text_in : List Told → List ℕ
text_in [] = []
text_in (node ∷ rest) = node.text

-- fewer than two phrases are left
abbrev pub HasNoPair : List (List Told) → Type 0
HasNoPair (first ∷ second ∷ phrases) = ⊥
HasNoPair _ = Unit {0}
