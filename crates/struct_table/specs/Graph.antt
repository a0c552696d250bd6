-- Which structs hold which, by their numbers, and which hold themselves.
use Rattle.std.specs.Prelude.{ℕ, zero, suc, Bool, List, [], ◌∷◌, ◌++◌, length, get_or, nat_eq, bytes_eq, position, Option, Some, None, if◌then◌else◌}
use Rattle.std.specs.List.{list_any}
use Rattle.ir_read.specs.declared.terminal.Terminal.{Terminal}
use Rattle.ir_read.specs.declared.terminal.Terminal.TheVariants as t
use Rattle.ir_read.specs.Name.{name_of}
use Rattle.ir_read.specs.Node.{Told}

-- ---- the structs that a type names

abbrev pub number_by : Terminal → List (List ℕ) → List ℕ → Option ℕ
number_by t.Local names text = position (bytes_eq (name_of t.Local text)) names
number_by _ names text = None

abbrev pub and_number : List ℕ → Option ℕ → List ℕ
and_number done None = done
and_number done (Some number) = done ++ number ∷ []

abbrev pub numbers_from : List (List ℕ) → List ℕ → List Told → List ℕ
numbers_from names done [] = done
numbers_from names done (node ∷ nodes) =
    numbers_from names (and_number done (number_by node.terminal names node.text)) nodes

-- those that there are, also as elements of an array
abbrev pub numbers_in : List (List ℕ) → List Told → List ℕ
numbers_in names nodes = numbers_from names [] nodes

abbrev pub holds_from : List (List ℕ) → List (List ℕ) → List (List Told) → List (List ℕ)
holds_from names done [] = done
holds_from names done (nodes ∷ types) = holds_from names (done ++ numbers_in names nodes ∷ []) types

-- of each struct those that its type names
abbrev pub holds_of : List (List ℕ) → List (List Told) → List (List ℕ)
holds_of names types = holds_from names [] types

-- ---- circles

-- what a struct holds directly
abbrev pub held : List (List ℕ) → ℕ → List ℕ
held holds number = get_or holds number []

abbrev pub held_by : List (List ℕ) → List ℕ → List ℕ
held_by holds [] = []
held_by holds (number ∷ numbers) = held holds number ++ held_by holds numbers

-- what it holds directly, or through others, at most so deep
abbrev pub reached : List (List ℕ) → ℕ → ℕ → List ℕ
reached holds number zero = []
reached holds number (suc depth) = held holds number ++ held_by holds (reached holds number depth)

abbrev pub has : List ℕ → ℕ → Bool
has numbers number = list_any (nat_eq number) numbers

-- no circle of structs is longer than there are structs
abbrev pub holds_itself : List (List ℕ) → ℕ → Bool
holds_itself holds number = has (reached holds number (length holds)) number

abbrev pub or_circle : Option ℕ → List (List ℕ) → ℕ → Option ℕ
or_circle (Some circle) holds number = Some circle
or_circle None holds number = if holds_itself holds number then Some number else None

abbrev pub circle_below : List (List ℕ) → ℕ → Option ℕ
circle_below holds zero = None
circle_below holds (suc number) = or_circle (circle_below holds number) holds number

-- the first struct that holds itself
abbrev pub first_circle : List (List ℕ) → Option ℕ
first_circle holds = circle_below holds (length holds)
