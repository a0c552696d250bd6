-- The instructions that make addresses.
use Rattle.std.specs.Prelude.{ℕ, List, [], ◌∷◌, ◌++◌, None}
use Rattle.address_path.specs.declared.index.Index.{Index}
use Rattle.address_path.specs.Path.{Path, path_of, size_of}
use Rattle.ir_layout.specs.declared.extent.Overflow.TheVariants.{Saturating}
use Rattle.ir_read.specs.Node.{Told}
use Rattle.ir_types.specs.declared.instruction.Inst.{Inst}
use Rattle.ir_types.specs.declared.instruction.Inst.TheVariants as insts
use Rattle.ir_types.specs.declared.instruction.Operand.{Operand}
use Rattle.ir_types.specs.declared.word.Kind.TheVariants.{Int, Ptr}
use Rattle.ir_types.specs.declared.word.Width.TheVariants.{W32}
use Rattle.module_fault.specs.declared.cause.Cause.TheVariants.{TypeMismatch}
use Rattle.module_fault.specs.declared.cause.Found.{Found}
use Rattle.module_fault.specs.Cause.{lesser, unless}
use Rattle.instruction_check.specs.declared.operand.Typed.{Typed}
use Rattle.instruction_check.specs.Literals.{constant, is_integer}
use Rattle.instruction_check.specs.Operand.{operand, typed}
use Rattle.instruction_check.specs.Phrases.{first, behind, behind_two, kind_in}
use Rattle.instruction_check.specs.Roles.{unless_same}
use Rattle.instruction_check.specs.Scope.{Scope}

-- ---- `TYPE`, or `TYPE, iN OPERAND`

-- one, where no count is written
abbrev pub count_of : Scope → List (List Told) → Found Operand
count_of scope [] = record { value = constant (Int W32) 1; cause = None }
count_of scope (written ∷ phrases) =
    let kind = kind_in written in
    let found = operand scope kind (first phrases) in
    record { value = found.value; cause = lesser (unless (is_integer kind) TypeMismatch) found.cause }

abbrev pub alloca : Scope → ℕ → List (List Told) → Found Inst
alloca scope to phrases =
    let count = count_of scope (behind phrases) in
    record {
      value = insts.Alloca to (size_of scope.structs Saturating (first phrases)) count.value;
      cause = count.cause;
    }

-- ---- `TYPE, ptr OPERAND, iN OPERAND, ..`

abbrev pub index_at : Scope → List Told → List Told → Index
index_at scope written phrase =
    let kind = kind_in written in
    let found = operand scope kind phrase in
    record { kind = kind; value = found.value; cause = found.cause }

-- those behind the ones so far
abbrev pub indices_from : Scope → List Index → List (List Told) → List Index
indices_from scope done (written ∷ phrase ∷ phrases) =
    indices_from scope (done ++ index_at scope written phrase ∷ []) phrases
indices_from scope done _ = done

abbrev pub indices_of : Scope → List (List Told) → List Index
indices_of scope phrases = indices_from scope [] phrases

-- so far from an operand
abbrev pub address_by : ℕ → Typed → Path → Found Inst
address_by to base at = record {
  value = insts.Address to base.value at.fixed at.scaled;
  cause = lesser (unless_same base.kind Ptr) (lesser base.cause at.cause);
}

-- into a type of these nodes
abbrev pub element_in : Scope → ℕ → List Told → List (List Told) → Found Inst
element_in scope to nodes phrases =
    address_by to (typed scope phrases) (path_of scope.structs nodes (indices_of scope (behind_two phrases)))

abbrev pub element : Scope → ℕ → List (List Told) → Found Inst
element scope to phrases = element_in scope to (first phrases) (behind phrases)
