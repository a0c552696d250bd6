-- Names in the order in which they are given, each once, and the number of each.
use Rattle.std.specs.Prelude.{◌≡◌, ℕ, List, [], ◌∷◌, ◌++◌, Option, Some, None, bytes_eq, if◌then◌else◌}
use Rattle.std.specs.BTreeMap.{BTreeMap, get_by}
use Rattle.std.specs.Cmp.Lexicographic.{slice_cmp}
use Rattle.std.specs.List.{list_any}
use Rattle.std.specs.Option.{option_or}
use Rattle.std.specs.Ordering.{nat_cmp}
use denote.Ref.{Bor}

-- the names once one is given: a name that is there already isn't added
abbrev pub given : List (List ℕ) → List ℕ → List (List ℕ)
given names name = if list_any (bytes_eq name) names then names else names ++ name ∷ []

abbrev pub number_of : BTreeMap (Bor (List ℕ)) ℕ → List ℕ → Option ℕ
number_of numbers name = get_by (λ key. slice_cmp nat_cmp name key.now) numbers

-- the name has the number in `after`, unless it had one before, and no other name changes
abbrev pub GivesNumber : BTreeMap (Bor (List ℕ)) ℕ → BTreeMap (Bor (List ℕ)) ℕ → List ℕ → ℕ → Type 0
GivesNumber before after name number = (other : List ℕ) →
    number_of after other ≡ option_or (number_of before other) (if bytes_eq other name then Some number else None)
