-- What structs hold within parts, where no struct holds one of a higher part than its own: no circle leaves its part.
use Rattle.std.specs.Prelude.{ℕ, zero, suc, Bool, true, ◌&&◌, List, [], ◌∷◌, ◌++◌, length, get_or, nat_eq, nat_le, if◌then◌else◌}
use Rattle.struct_table.specs.Graph.{held}

-- the part of a struct
abbrev pub part : List ℕ → ℕ → ℕ
part parts number = get_or parts number 0

abbrev pub falls_from : List ℕ → ℕ → Bool → List ℕ → Bool
falls_from parts by done [] = done
falls_from parts by done (number ∷ numbers) = falls_from parts by (done && nat_le (part parts number) (part parts by)) numbers

abbrev pub falls_below : List ℕ → List (List ℕ) → ℕ → Bool
falls_below parts holds zero = true
falls_below parts holds (suc by) = falls_from parts by (falls_below parts holds by) (held holds by)

-- no struct holds one of a higher part
abbrev pub never_rises : List ℕ → List (List ℕ) → Bool
never_rises parts holds = falls_below parts holds (length holds)

abbrev pub and_inside : List ℕ → ℕ → List ℕ → ℕ → List ℕ
and_inside parts by done number = if nat_eq (part parts number) (part parts by) then done ++ number ∷ [] else done

abbrev pub inside_from : List ℕ → ℕ → List ℕ → List ℕ → List ℕ
inside_from parts by done [] = done
inside_from parts by done (number ∷ numbers) = inside_from parts by (and_inside parts by done number) numbers

abbrev pub inside_below : List ℕ → List (List ℕ) → ℕ → List (List ℕ)
inside_below parts holds zero = []
inside_below parts holds (suc by) = inside_below parts holds by ++ inside_from parts by [] (held holds by) ∷ []

-- of each struct those of its own part that it holds
abbrev pub inside : List ℕ → List (List ℕ) → List (List ℕ)
inside parts holds = inside_below parts holds (length holds)
