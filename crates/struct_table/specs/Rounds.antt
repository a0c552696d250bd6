-- What structs take in memory, by rounds: in round 0 no struct has an extent, and in each round after it those have one
-- whose types name no struct that had none in the round before. So a struct that rests on a name that nothing gives, or
-- that holds itself, never has one.
use Rattle.std.specs.Prelude.{ℕ, zero, suc, Bool, true, ◌&&◌, List, [], ◌∷◌, length, replicate, get_or, bytes_eq, position, is_some, Option, Some, None, if◌then◌else◌}
use Rattle.ir_read.specs.declared.terminal.Terminal.{Terminal}
use Rattle.ir_read.specs.declared.terminal.Terminal.TheVariants as t
use Rattle.ir_read.specs.Name.{name_of}
use Rattle.ir_read.specs.Node.{Told}
use Rattle.ir_layout.specs.declared.extent.Extent.{Extent}
use Rattle.ir_layout.specs.Extent.{empty}
use Rattle.ir_layout.specs.Walk.{extent_by}

-- ---- what is known in a round, by the number of the struct

abbrev pub extent_at : List (Option Extent) → Option ℕ → Option Extent
extent_at round None = None
extent_at round (Some number) = get_or round number None

-- by its name
abbrev pub extent_in : List (List ℕ) → List (Option Extent) → List ℕ → Option Extent
extent_in names round name = extent_at round (position (bytes_eq name) names)

abbrev pub or_empty : Option Extent → Extent
or_empty None = empty
or_empty (Some extent) = extent

-- one that has none counts as a struct without fields
abbrev pub extents_in : List (List ℕ) → List (Option Extent) → List ℕ → Extent
extents_in names round name = or_empty (extent_in names round name)

abbrev pub is_ready_by : Terminal → List (List ℕ) → List (Option Extent) → List ℕ → Bool
is_ready_by t.Local names round text = is_some (extent_in names round (name_of t.Local text))
is_ready_by _ names round text = true

abbrev pub ready_from : List (List ℕ) → List (Option Extent) → Bool → List Told → Bool
ready_from names round done [] = done
ready_from names round done (node ∷ nodes) =
    ready_from names round (done && is_ready_by node.terminal names round node.text) nodes

-- each struct that the nodes name has an extent
abbrev pub are_ready : List (List ℕ) → List (Option Extent) → List Told → Bool
are_ready names round nodes = ready_from names round true nodes

-- ---- from round to round

-- what a struct has in the next round, by the nodes of its type
abbrev pub next_extent : (ℕ → ℕ) → List (List ℕ) → List (Option Extent) → List Told → Option Extent
next_extent keep names round nodes =
    if are_ready names round nodes then Some (extent_by keep (extents_in names round) nodes) else None

abbrev pub next_round : (ℕ → ℕ) → List (List ℕ) → List (Option Extent) → List (List Told) → List (Option Extent)
next_round keep names round [] = []
next_round keep names round (nodes ∷ types) = next_extent keep names round nodes ∷ next_round keep names round types

abbrev pub none_settled : List (List Told) → List (Option Extent)
none_settled types = replicate (length types) None

abbrev pub round_after : (ℕ → ℕ) → List (List ℕ) → List (List Told) → ℕ → List (Option Extent)
round_after keep names types zero = none_settled types
round_after keep names types (suc rounds) = next_round keep names (round_after keep names types rounds) types

-- each round but the last settles one struct at least, so as many rounds as there are structs are enough
abbrev pub settled : (ℕ → ℕ) → List (List ℕ) → List (List Told) → List (Option Extent)
settled keep names types = round_after keep names types (length types)
