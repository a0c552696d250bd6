-- What the parts of a table of local names are to its names.
use Rattle.std.specs.Prelude.{◌≡◌, ℕ, List, Option, Some, None, length, nat_eq, position, slice_index, option_map, if◌then◌else◌}
use Rattle.std.specs.BTreeMap.{BTreeMap, get}
use Rattle.std.specs.List.{IsDistinct}
use Rattle.std.specs.Option.{option_or}
use Rattle.std.specs.Ordering.{nat_cmp}
use denote.Ref.{Bor}
use Rattle.ir_names.specs.declared.local_name.LocalName.{LocalName}
use Rattle.ir_names.specs.declared.local_name.LocalName.TheVariants.{Number, Plain}
use Rattle.ir_names.specs.LocalName.{local_eq}
use Rattle.ir_names.specs.LocalTable.{count_of}
use Rattle.ir_names.specs.NameTable.{number_of}

-- the place of a number: that of one of the rising ones, or of one below the count
abbrev pub place_of : List ℕ → List ℕ → BTreeMap ℕ ℕ → ℕ → Option ℕ
place_of rising places below number =
    option_or (option_map (λ index. slice_index places index) (position (nat_eq number) rising)) (get nat_cmp below number)

-- the number has the place in `after`, unless it had one before, and no other number changes
abbrev pub GivesPlace : BTreeMap ℕ ℕ → BTreeMap ℕ ℕ → ℕ → ℕ → Type 0
GivesPlace before after number place = (other : ℕ) →
    get nat_cmp after other ≡ option_or (get nat_cmp before other) (if nat_eq other number then Some place else None)

pub record HasPlaces (names : List LocalName) (plain : BTreeMap (Bor (List ℕ)) ℕ) (rising places : List ℕ) (below : BTreeMap ℕ ℕ) (count : ℕ) : Type 0 where
  pub plain_at : (name : List ℕ) → number_of plain name ≡ position (local_eq (Plain name)) names
  pub number_at : (number : ℕ) → place_of rising places below number ≡ position (local_eq (Number number)) names
  pub paired : length places ≡ length rising
  pub counted : count ≡ count_of names
  pub once : IsDistinct local_eq names
