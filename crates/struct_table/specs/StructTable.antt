-- The table of a module's structs.
use Rattle.std.specs.Prelude.{ℕ, Bool, true, false, ◌&&◌, List, [], ◌∷◌, get_or, bytes_eq, position, is_some, Option, Some, None}
use Rattle.ir_read.specs.declared.grammar.Rule.{Rule}
use Rattle.ir_read.specs.declared.grammar.Rule.TheVariants as r
use Rattle.ir_read.specs.declared.terminal.Terminal.{Terminal}
use Rattle.ir_read.specs.declared.terminal.Terminal.TheVariants as t
use Rattle.ir_read.specs.Name.{name_of}
use Rattle.ir_read.specs.Node.{Told}
use Rattle.ir_items.specs.Segment.{Segment}
use Rattle.ir_layout.specs.declared.extent.Extent.{Extent}
use Rattle.ir_layout.specs.declared.extent.Overflow.{Overflow}
use Rattle.ir_layout.specs.declared.extent.Overflow.TheVariants as o
use Rattle.ir_layout.specs.Extent.{kept}
use Rattle.module_fault.specs.declared.cause.Cause.{Cause}
use Rattle.module_fault.specs.declared.cause.Cause.TheVariants.{UnknownName}
use Rattle.module_fault.specs.Cause.{unless}
use Rattle.struct_table.specs.Members.{Member, members_from}
use Rattle.struct_table.specs.Named.{named_in}
use Rattle.struct_table.specs.Rounds.{extents_in, settled}

-- each list by the number of the struct; the members are those of the wrapping layout
pub record Structs : Type 0 where
  pub names : List (List ℕ)
  pub types : List (List Told)
  pub saturating : List (Option Extent)
  pub wrapping : List (Option Extent)
  pub members : List (List Member)

abbrev pub structs_by : List (List ℕ) → List (List Told) → Structs
structs_by names types =
    let wrapping = settled (kept o.Wrapping) names types in
    record {
      names = names;
      types = types;
      saturating = settled (kept o.Saturating) names types;
      wrapping = wrapping;
      members = members_from (extents_in names wrapping) [] types;
    }

abbrev pub structs_of : List Segment → Structs
structs_of items = structs_by (named_in items).names (named_in items).types

-- ---- by the name

abbrev pub number_of : Structs → List ℕ → Option ℕ
number_of structs name = position (bytes_eq name) structs.names

abbrev pub settled_in : Structs → Overflow → List (Option Extent)
settled_in structs o.Saturating = structs.saturating
settled_in structs o.Wrapping = structs.wrapping

-- what the struct takes; nothing where there is none, or where it rests on one that has no extent
abbrev pub extent : Structs → Overflow → List ℕ → Extent
extent structs overflow name = extents_in structs.names (settled_in structs overflow) name

abbrev pub at_number : {A : Type 0} → List (List A) → Option ℕ → List A
at_number lists None = []
at_number lists (Some number) = get_or lists number []

abbrev pub type_named : Structs → List ℕ → List Told
type_named structs name = at_number structs.types (number_of structs name)

abbrev pub members_named : Structs → List ℕ → List Member
members_named structs name = at_number structs.members (number_of structs name)

-- ---- names in types

abbrev pub is_local : Terminal → Bool
is_local t.Local = true
is_local _ = false

abbrev pub names_struct : Rule → Terminal → Bool
names_struct r.Type terminal = is_local terminal
names_struct _ terminal = false

abbrev pub known_by : Bool → Structs → List ℕ → Bool
known_by true structs text = is_some (number_of structs (name_of t.Local text))
known_by false structs text = true

abbrev pub known_from : Structs → Bool → List Told → Bool
known_from structs done [] = done
known_from structs done (node ∷ nodes) =
    known_from structs (done && known_by (names_struct node.rule node.terminal) structs node.text) nodes

-- each struct that a type among the nodes names is there
abbrev pub knows : Structs → List Told → Bool
knows structs nodes = known_from structs true nodes

abbrev pub unknown_in : Structs → List Told → Option Cause
unknown_in structs nodes = unless (knows structs nodes) UnknownName
