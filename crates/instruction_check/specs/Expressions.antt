-- The addresses that constant expressions spell. Each is spelled by the phrases behind its word, as the instruction of
-- that word is; what stands in it is a global, and literals.
use Rattle.std.specs.Prelude.{ℕ, ◌+◌, ◌%◌, ◌^◌, List, [], ◌∷◌, ◌++◌}
use Rattle.address_path.specs.declared.index.Index.{Index}
use Rattle.address_path.specs.Path.{Path, path_of}
use Rattle.ir_items.specs.Phrase.{inside_of, phrases_of}
use Rattle.ir_read.specs.declared.terminal.Terminal.{Terminal}
use Rattle.ir_read.specs.declared.terminal.Terminal.TheVariants as t
use Rattle.ir_read.specs.Node.{Told}
use Rattle.ir_types.specs.declared.instruction.Operand.TheVariants.{Constant}
use Rattle.module_fault.specs.declared.cause.Cause.TheVariants.{TypeMismatch}
use Rattle.module_fault.specs.declared.cause.Found.{Found}
use Rattle.module_fault.specs.Cause.{lesser, unless}
use Rattle.struct_table.specs.StructTable.{Structs}
use Rattle.instruction_check.specs.declared.scope.ModuleNames.{ModuleNames}
use Rattle.instruction_check.specs.Literals.{is_integer, literal_in}
use Rattle.instruction_check.specs.Phrases.{first, second, behind, behind_two, kind_in}
use Rattle.instruction_check.specs.Scope.{address_in}

-- ---- `inttoptr (iN LITERAL to ptr)`

-- the bits of the literal, extended by zeros
abbrev pub integer_address : List (List Told) → Found ℕ
integer_address phrases =
    let kind = kind_in (first phrases) in
    let found = literal_in kind (second phrases) in
    record { value = found.value.bits; cause = lesser (unless (is_integer kind) TypeMismatch) found.cause }

-- ---- `getelementptr (TYPE, ptr GLOBAL, iN LITERAL, ..)`

abbrev pub literal_index : List Told → List Told → Index
literal_index written phrase =
    let kind = kind_in written in
    let found = literal_in kind phrase in
    record { kind = kind; value = Constant found.value; cause = found.cause }

-- those behind the ones so far
abbrev pub literal_indices_from : List Index → List (List Told) → List Index
literal_indices_from done (written ∷ phrase ∷ phrases) =
    literal_indices_from (done ++ literal_index written phrase ∷ []) phrases
literal_indices_from done _ = done

abbrev pub literal_indices : List (List Told) → List Index
literal_indices phrases = literal_indices_from [] phrases

-- so far from a global
abbrev pub moved_address : Found ℕ → Path → Found ℕ
moved_address base at = record { value = (base.value + at.fixed) % 2 ^ 64; cause = lesser base.cause at.cause }

-- into a type of these nodes
abbrev pub element_address_in : ModuleNames → Structs → List Told → List (List Told) → Found ℕ
element_address_in names structs nodes phrases =
    moved_address (address_in names (second phrases)) (path_of structs nodes (literal_indices (behind_two phrases)))

abbrev pub element_address : ModuleNames → Structs → List (List Told) → Found ℕ
element_address names structs phrases = element_address_in names structs (first phrases) (behind phrases)

-- ---- both

abbrev pub expression_by : Terminal → ModuleNames → Structs → List (List Told) → Found ℕ
expression_by t.IntToPtr names structs phrases = integer_address phrases
expression_by _ names structs phrases = element_address names structs phrases

-- the address that a constant expression of the word spells
abbrev pub expression : ModuleNames → Structs → Terminal → List Told → Found ℕ
expression names structs word phrase = expression_by word names structs (phrases_of (inside_of phrase))
