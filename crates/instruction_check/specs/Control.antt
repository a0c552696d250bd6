-- The instructions that end a block, and those that join blocks.
use Rattle.std.specs.Prelude.{ℕ, Bool, true, false, List, [], ◌∷◌, Some, None, if◌then◌else◌}
use Rattle.ir_types.specs.declared.instruction.Inst.{Inst}
use Rattle.ir_types.specs.declared.instruction.Inst.TheVariants as insts
use Rattle.ir_types.specs.declared.instruction.Operand.{Operand}
use Rattle.ir_types.specs.declared.word.Kind.{Kind}
use Rattle.ir_types.specs.declared.word.Word.{Word}
use Rattle.ir_read.specs.declared.terminal.Terminal.{Terminal}
use Rattle.ir_read.specs.declared.terminal.Terminal.TheVariants as t
use Rattle.ir_read.specs.Node.{Told}
use Rattle.module_fault.specs.declared.cause.Cause.TheVariants.{TypeMismatch}
use Rattle.module_fault.specs.declared.cause.Found.{Found}
use Rattle.instruction_check.specs.declared.operand.Typed.{Typed}
use Rattle.module_fault.specs.Cause.{and_one, lesser, unless}
use Rattle.instruction_check.specs.Literals.{is_integer, literal_in}
use Rattle.instruction_check.specs.Operand.{block_of, operand, typed}
use Rattle.instruction_check.specs.Phrases.{first, second, third, behind, behind_two, kind_in}
use Rattle.instruction_check.specs.Roles.{same_result, unless_same}
use Rattle.instruction_check.specs.Scope.{Scope}
use Rattle.instruction_check.specs.Values.{condition}

-- ---- branches

abbrev pub is_local : Terminal → Bool
is_local t.Local = true
is_local _ = false

abbrev pub is_name : List Told → Bool
is_name [] = false
is_name (node ∷ rest) = is_local node.terminal

-- `BLOCK`
abbrev pub branch_to : Scope → List Told → Found Inst
branch_to scope phrase =
    let block = block_of scope phrase in
    record { value = insts.Branch block.value; cause = block.cause }

-- `OPERAND, label BLOCK, label BLOCK`, of an i1
abbrev pub branch_if : Scope → Kind → List (List Told) → Found Inst
branch_if scope kind phrases =
    let c = operand scope kind (first phrases) in
    let yes = block_of scope (second phrases) in
    let no = block_of scope (third phrases) in
    record {
      value = insts.BranchIf c.value yes.value no.value;
      cause = lesser (unless_same kind condition) (lesser c.cause (lesser yes.cause no.cause));
    }

-- `label BLOCK`, or `i1 OPERAND, label BLOCK, label BLOCK`
abbrev pub branch : Scope → List (List Told) → Found Inst
branch scope phrases =
    if is_name (first phrases) then branch_to scope (first phrases)
    else branch_if scope (kind_in (first phrases)) (behind phrases)

-- ---- returns

abbrev pub is_key_void : Terminal → Bool
is_key_void t.Void = true
is_key_void _ = false

abbrev pub is_void : List Told → Bool
is_void [] = false
is_void (node ∷ rest) = is_key_void node.terminal

abbrev pub ret_void : Scope → Found Inst
ret_void scope = record { value = insts.Ret None; cause = unless (same_result scope.body.result None) TypeMismatch }

abbrev pub ret_value : Scope → Kind → List (List Told) → Found Inst
ret_value scope kind phrases =
    let given = operand scope kind (first phrases) in
    record {
      value = insts.Ret (Some given.value);
      cause = lesser (unless (same_result scope.body.result (Some kind)) TypeMismatch) given.cause;
    }

-- `void`, or `TYPE OPERAND`, as the function gives it
abbrev pub ret : Scope → List (List Told) → Found Inst
ret scope phrases =
    if is_void (first phrases) then ret_void scope
    else ret_value scope (kind_in (first phrases)) (behind phrases)

-- ---- the cases of a switch

-- `TYPE LITERAL, label BLOCK`, of the type of what is switched on
abbrev pub case_at : Scope → Kind → List Told → List Told → List Told → Found (Word × ℕ)
case_at scope kind type_phrase literal_phrase block_phrase =
    let written = kind_in type_phrase in
    let constant = literal_in written literal_phrase in
    let block = block_of scope block_phrase in
    record {
      value = (constant.value, block.value);
      cause = lesser (unless_same written kind) (lesser constant.cause block.cause);
    }

-- those behind the ones so far
abbrev pub cases_from : Scope → Kind → Found (List (Word × ℕ)) → List (List Told) → Found (List (Word × ℕ))
cases_from scope kind done (written ∷ literal ∷ block ∷ phrases) =
    cases_from scope kind (and_one done (case_at scope kind written literal block)) phrases
cases_from scope kind done _ = done

abbrev pub cases_of : Scope → Kind → List (List Told) → Found (List (Word × ℕ))
cases_of scope kind phrases = cases_from scope kind (record { value = []; cause = None }) phrases

-- fewer phrases are left than a case has
abbrev pub HasNoCase : List (List Told) → Type 0
HasNoCase (written ∷ literal ∷ block ∷ phrases) = ⊥
HasNoCase _ = Unit {0}

-- `label BLOCK` and the cases, of what is switched on
abbrev pub switch_on : Scope → Typed → List (List Told) → Found Inst
switch_on scope given phrases =
    let default = block_of scope (first phrases) in
    let cases = cases_of scope given.kind (behind phrases) in
    record {
      value = insts.Switch given.value default.value cases.value;
      cause = lesser (lesser (unless (is_integer given.kind) TypeMismatch) (lesser given.cause default.cause)) cases.cause;
    }

-- `TYPE OPERAND, label BLOCK` and the cases, of an integer type
abbrev pub switch : Scope → List (List Told) → Found Inst
switch scope phrases = switch_on scope (typed scope phrases) (behind_two phrases)

-- ---- the edges of a phi

-- `OPERAND, BLOCK`
abbrev pub edge_at : Scope → Kind → List Told → List Told → Found (ℕ × Operand)
edge_at scope kind value_phrase block_phrase =
    let given = operand scope kind value_phrase in
    let block = block_of scope block_phrase in
    record { value = (block.value, given.value); cause = lesser given.cause block.cause }

-- those behind the ones so far
abbrev pub edges_from : Scope → Kind → Found (List (ℕ × Operand)) → List (List Told) → Found (List (ℕ × Operand))
edges_from scope kind done (value ∷ block ∷ phrases) =
    edges_from scope kind (and_one done (edge_at scope kind value block)) phrases
edges_from scope kind done _ = done

abbrev pub edges_of : Scope → Kind → List (List Told) → Found (List (ℕ × Operand))
edges_of scope kind phrases = edges_from scope kind (record { value = []; cause = None }) phrases

-- `TYPE EDGE, ..`
abbrev pub phi : Scope → ℕ → List (List Told) → Found Inst
phi scope to phrases =
    let edges = edges_of scope (kind_in (first phrases)) (behind phrases) in
    record { value = insts.Phi to edges.value; cause = edges.cause }
