-- What the laws say of structs.
use Rattle.std.specs.Prelude.{◌≡◌, ℕ, Bool, true, ◌&&◌, List, [], ◌∷◌, get_or, bytes_eq, is_some, position, Some, None}
use Rattle.ir_read.specs.declared.terminal.Terminal.{Terminal}
use Rattle.ir_read.specs.declared.terminal.Terminal.TheVariants as t
use Rattle.ir_read.specs.Name.{name_of}
use Rattle.ir_read.specs.Node.{Told}
use Rattle.ir_layout.specs.declared.extent.Extent.{Extent}
use Rattle.ir_layout.specs.declared.extent.Overflow.{Overflow}
use Rattle.struct_table.specs.StructTable.{Structs, number_of, settled_in}

-- the struct of the name has the number, and takes so much
pub record IsSettled (structs : Structs) (overflow : Overflow) (name : List ℕ) (number : ℕ) (extent : Extent) : Type 0 where
  pub number_is : number_of structs name ≡ Some number
  pub extent_is : get_or (settled_in structs overflow) number None ≡ Some extent

abbrev pub is_named : Terminal → List (List ℕ) → List ℕ → Bool
is_named t.Local names text = is_some (position (bytes_eq (name_of t.Local text)) names)
is_named _ names text = true

-- each struct that the nodes name is one of these
abbrev pub are_named : List (List ℕ) → List Told → Bool
are_named names [] = true
are_named names (node ∷ nodes) = is_named node.terminal names node.text && are_named names nodes
