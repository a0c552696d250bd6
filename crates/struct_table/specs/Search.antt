-- The search for what a struct holds: each is marked once, and what it holds is looked at after it.
use Rattle.std.specs.Prelude.{ℕ, Bool, true, false, not, ◌&&◌, List, [], ◌∷◌, length, replicate, get_or, set, nat_lt, if◌then◌else◌}

pub record Search : Type 0 where
  -- whether it is held, by the number of the struct
  pub marks : List Bool
  -- those at which nobody looked yet
  pub pending : List ℕ

abbrev pub is_unmarked : List Bool → ℕ → Bool
is_unmarked marks number = nat_lt number (length marks) && not (get_or marks number false)

abbrev pub with_mark : Search → ℕ → Search
with_mark search number =
    if is_unmarked search.marks number
    then record { marks = set search.marks number true; pending = number ∷ search.pending }
    else search

abbrev pub with_marks : Search → List ℕ → Search
with_marks search [] = search
with_marks search (number ∷ numbers) = with_marks (with_mark search number) numbers

abbrev pub begun : ℕ → Search
begun count = record { marks = replicate count false; pending = [] }
