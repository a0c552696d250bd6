-- The instructions that compute a value of others. Each is spelled by the phrases behind its word.
use Rattle.std.specs.Prelude.{ℕ, List}
use Rattle.ir_types.specs.declared.instruction.Inst.{Inst}
use Rattle.ir_types.specs.declared.instruction.Inst.TheVariants as insts
use Rattle.ir_types.specs.declared.operation.BinOp.{BinOp}
use Rattle.ir_types.specs.declared.word.Kind.{Kind}
use Rattle.ir_types.specs.declared.word.Kind.TheVariants.{Int}
use Rattle.ir_types.specs.declared.word.Width.TheVariants.{W1}
use Rattle.ir_types.specs.Kind.{width_of}
use Rattle.ir_read.specs.Node.{Told}
use Rattle.module_fault.specs.declared.cause.Cause.TheVariants.{TypeMismatch}
use Rattle.module_fault.specs.declared.cause.Found.{Found}
use Rattle.instruction_check.specs.declared.operations.Cast.{Cast}
use Rattle.instruction_check.specs.Scope.{Scope}
use Rattle.module_fault.specs.Cause.{lesser, unless}
use Rattle.instruction_check.specs.Literals.{is_integer}
use Rattle.instruction_check.specs.Operand.{operand, typed}
use Rattle.instruction_check.specs.Operations.{can_cast, converted, predicate_of}
use Rattle.instruction_check.specs.Phrases.{first, second, third, fourth, behind_two, kind_in, text_in}
use Rattle.instruction_check.specs.Roles.{unless_same}

-- the kind of a condition
abbrev pub condition : Kind
condition = Int W1

-- `TYPE OPERAND, OPERAND`, of an integer type
abbrev pub binary : Scope → ℕ → BinOp → List (List Told) → Found Inst
binary scope to op phrases =
    let kind = kind_in (first phrases) in
    let a = operand scope kind (second phrases) in
    let b = operand scope kind (third phrases) in
    record {
      value = insts.Binary to op a.value b.value;
      cause = lesser (unless (is_integer kind) TypeMismatch) (lesser a.cause b.cause);
    }

-- `PREDICATE TYPE OPERAND, OPERAND`
abbrev pub compare : Scope → ℕ → List (List Told) → Found Inst
compare scope to phrases =
    let kind = kind_in (second phrases) in
    let a = operand scope kind (third phrases) in
    let b = operand scope kind (fourth phrases) in
    record {
      value = insts.Compare to (predicate_of (text_in (first phrases))) a.value b.value;
      cause = lesser a.cause b.cause;
    }

-- `TYPE OPERAND to TYPE`
abbrev pub convert : Scope → ℕ → Cast → List (List Told) → Found Inst
convert scope to cast phrases =
    let from = kind_in (first phrases) in
    let a = operand scope from (second phrases) in
    let into = kind_in (third phrases) in
    record {
      value = converted to cast a.value (width_of from) (width_of into);
      cause = lesser (unless (can_cast cast from into) TypeMismatch) a.cause;
    }

-- `i1 OPERAND, TYPE OPERAND, TYPE OPERAND`, of one type twice
abbrev pub select : Scope → ℕ → List (List Told) → Found Inst
select scope to phrases =
    let c = typed scope phrases in
    let a = typed scope (behind_two phrases) in
    let b = typed scope (behind_two (behind_two phrases)) in
    record {
      value = insts.Select to c.value a.value b.value;
      cause = lesser (lesser (unless_same c.kind condition) (unless_same b.kind a.kind)) (lesser c.cause (lesser a.cause b.cause));
    }
