-- What a step is by the type to which the way has come.
use Rattle.std.specs.Prelude.{◌≡◌, ℕ, List}
use Rattle.ir_types.specs.declared.instruction.Operand.{Operand}
use Rattle.ir_layout.specs.declared.extent.Overflow.TheVariants.{Wrapping}
use Rattle.ir_layout.specs.Extent.{kept}
use Rattle.ir_layout.specs.Layout.{layout_by}
use Rattle.ir_read.specs.Node.{Told}
use Rattle.ir_read.specs.Shape.{Shape, Spells}
use Rattle.struct_table.specs.StructTable.{Structs, extent}
use Rattle.address_path.specs.Path.{Path, at_type, counted, into}

-- how many bytes a type takes, modulo 2^64
abbrev pub bytes_of : Structs → Shape → ℕ
bytes_of structs shape = (layout_by (kept Wrapping) (extent structs Wrapping) shape).size

-- the index counts elements of the type, and leads to one
pub record CountsElements (structs : Structs) (shape : Shape) (index : Operand) (at : Path) : Type 0 where
  pub nodes : List Told
  pub spelled : Spells shape nodes
  pub led : into structs index at ≡ at_type nodes (counted (bytes_of structs shape) index at)
