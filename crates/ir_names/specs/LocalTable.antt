-- The names of a body: those that its definitions have, and those that they are given by the count.
use Rattle.std.specs.Prelude.{ℕ, ◌+◌, Bool, false, List, [], ◌∷◌, ◌++◌, max, nat_lt, Option, Some, None, if◌then◌else◌}
use Rattle.std.specs.List.{list_any}
use Rattle.ir_names.specs.declared.local_name.LocalName.{LocalName}
use Rattle.ir_names.specs.declared.local_name.LocalName.TheVariants.{Number, Plain}
use Rattle.ir_names.specs.declared.local_table.Given.{Given}
use Rattle.ir_names.specs.declared.local_table.Given.TheVariants.{Fresh, Duplicate, Below}
use Rattle.ir_names.specs.LocalName.{local_eq}

-- one above the number
abbrev pub past : LocalName → ℕ
past (Number number) = number + 1
past (Plain name) = 0

-- the count: one above the greatest number, and 0 where there is none
abbrev pub count_of : List LocalName → ℕ
count_of [] = 0
count_of (name ∷ names) = max (past name) (count_of names)

abbrev pub has : List LocalName → LocalName → Bool
has names name = list_any (local_eq name) names

-- the name of a definition: its own, or the number to which the count has come
abbrev pub name_given : List LocalName → Option LocalName → LocalName
name_given names None = Number (count_of names)
name_given names (Some name) = name

abbrev pub is_below : LocalName → ℕ → Bool
is_below (Number number) count = nat_lt number count
is_below (Plain name) count = false

-- a name that is there already is that one twice, also where it is below the count
abbrev pub given : List LocalName → LocalName → Given
given names name = if has names name then Duplicate else if is_below name (count_of names) then Below else Fresh

-- the names once a definition gives one. The first that gave it counts
abbrev pub defined : List LocalName → LocalName → List LocalName
defined names name = if has names name then names else names ++ name ∷ []
