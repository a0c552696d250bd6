-- The way that indices take from an address into a type: how many bytes it goes, and to which type it comes.
use Rattle.std.specs.Prelude.{ℕ, ◌+◌, ◌*◌, ◌%◌, ◌^◌, Bool, true, false, List, [], ◌∷◌, ◌++◌, slice_get, Option, Some, None}
use Rattle.ir_types.specs.declared.instruction.Operand.{Operand}
use Rattle.ir_types.specs.declared.instruction.Operand.TheVariants.{Register, Constant}
use Rattle.ir_types.specs.declared.word.Kind.{Kind}
use Rattle.ir_types.specs.declared.word.Kind.TheVariants.{Int, Ptr}
use Rattle.ir_types.specs.declared.word.Word.{Word}
use Rattle.ir_types.specs.Operation.{signed_value, wrapped}
use Rattle.ir_types.specs.Width.{bits_of}
use Rattle.ir_layout.specs.declared.extent.Overflow.{Overflow}
use Rattle.ir_layout.specs.declared.extent.Overflow.TheVariants.{Wrapping}
use Rattle.ir_layout.specs.Extent.{kept}
use Rattle.ir_layout.specs.Walk.{extent_by}
use Rattle.ir_read.specs.declared.raw_type.TypeForm.{TypeForm}
use Rattle.ir_read.specs.declared.raw_type.TypeForm.TheVariants as forms
use Rattle.ir_read.specs.Node.{Told}
use Rattle.ir_read.specs.Shape.{element_of, form_of, struct_name, type_in}
use Rattle.module_fault.specs.declared.cause.Cause.{Cause}
use Rattle.module_fault.specs.declared.cause.Cause.TheVariants.{TypeMismatch}
use Rattle.module_fault.specs.Cause.{lesser, unless}
use Rattle.struct_table.specs.Members.{Member, members_of}
use Rattle.struct_table.specs.StructTable.{Structs, extent, members_named}
use Rattle.address_path.specs.declared.index.Index.{Index}

pub record Path : Type 0 where
  -- how many bytes literals count, modulo 2^64
  pub fixed : ℕ
  -- the indices that are registers, in order, each with the bytes that it counts in, modulo 2^64
  pub scaled : List (Operand × ℕ)
  -- the nodes of the type to which it has come
  pub place : List Told
  pub cause : Option Cause

-- at an address, where a type of the nodes begins
abbrev pub begun : List Told → Path
begun nodes = record { fixed = 0; scaled = []; place = nodes; cause = None }

-- ---- an index

abbrev pub is_integer : Kind → Bool
is_integer (Int width) = true
is_integer Ptr = false

-- an index is of an integer type
abbrev pub index_cause : Index → Option Cause
index_cause index = lesser (unless (is_integer index.kind) TypeMismatch) index.cause

-- the number of a literal, extended by its sign to 64 bits
abbrev pub extended : Word → ℕ
extended word = wrapped 64 (signed_value (bits_of word.width) word.bits)

-- so many units more, modulo 2^64
abbrev pub moved : ℕ → ℕ → ℕ → ℕ
moved fixed number unit = (fixed + number * unit % 2 ^ 64) % 2 ^ 64

-- ---- types

-- how many bytes the type takes, with what 64 bits hold of them
abbrev pub size_of : Structs → Overflow → List Told → ℕ
size_of structs overflow nodes = (extent_by (kept overflow) (extent structs overflow) nodes).size

abbrev pub fields_by : TypeForm → Structs → List Told → List Member
fields_by forms.Named structs nodes = members_named structs (struct_name nodes)
fields_by _ structs nodes = members_of (extent structs Wrapping) nodes

-- the fields of the struct that stands in front of the nodes; what is no struct has none
abbrev pub fields_of : Structs → List Told → List Member
fields_of structs nodes = fields_by (form_of (type_in nodes)) structs (type_in nodes)

-- ---- a step, without what is wrong with its index

abbrev pub counted_by_literal : ℕ → Word → Path → Path
counted_by_literal unit word at =
    record { fixed = moved at.fixed (extended word) unit; scaled = at.scaled; place = at.place; cause = at.cause }

-- so many units of the size
abbrev pub counted : ℕ → Operand → Path → Path
counted unit (Constant word) at = counted_by_literal unit word at
counted unit (Register number) at =
    record { fixed = at.fixed; scaled = at.scaled ++ (Register number, unit) ∷ []; place = at.place; cause = at.cause }

abbrev pub with_cause : Option Cause → Path → Path
with_cause cause at =
    record { fixed = at.fixed; scaled = at.scaled; place = at.place; cause = lesser at.cause cause }

-- where the type has no such part
abbrev pub refused : Path → Path
refused at = with_cause (Some TypeMismatch) at

-- to a field
abbrev pub entered : Option Member → Path → Path
entered (Some member) at =
    record { fixed = moved at.fixed 1 member.place; scaled = at.scaled; place = member.nodes; cause = at.cause }
entered None at = refused at

-- into a struct a literal alone leads, to the field of the number
abbrev pub chosen : List Member → Operand → Path → Path
chosen members (Constant word) at = entered (slice_get members (extended word)) at
chosen members (Register number) at = refused at

abbrev pub at_type : List Told → Path → Path
at_type nodes at = record { fixed = at.fixed; scaled = at.scaled; place = nodes; cause = at.cause }

-- to an element of an array
abbrev pub element : Structs → List Told → Operand → Path → Path
element structs nodes index at = at_type nodes (counted (size_of structs Wrapping nodes) index at)

-- what is no array has fields, or nothing to go into
abbrev pub into_by : TypeForm → Structs → Operand → Path → Path
into_by (forms.Array count) structs index at = element structs (element_of (type_in at.place)) index at
into_by _ structs index at = chosen (fields_of structs at.place) index at

abbrev pub into : Structs → Operand → Path → Path
into structs index at = into_by (form_of (type_in at.place)) structs index at

-- ---- a step

-- the first index counts whole types
abbrev pub begun_by : Structs → Index → Path → Path
begun_by structs index at = with_cause (index_cause index) (counted (size_of structs Wrapping at.place) index.value at)

-- each further one leads into the type
abbrev pub gone_by : Structs → Index → Path → Path
gone_by structs index at = with_cause (index_cause index) (into structs index.value at)

-- ---- all steps

abbrev pub path_from : Structs → Path → List Index → Path
path_from structs at [] = at
path_from structs at (index ∷ indices) = path_from structs (gone_by structs index at) indices

-- the way that the indices take from an address where a type of the nodes begins
abbrev pub path_of : Structs → List Told → List Index → Path
path_of structs nodes [] = begun nodes
path_of structs nodes (index ∷ indices) = path_from structs (begun_by structs index (begun nodes)) indices
