-- The operations that words spell.
use Rattle.std.specs.Prelude.{ℕ, Bool, true, false, nat_lt, List, codes, bytes_eq, if◌then◌else◌}
use Rattle.ir_types.specs.declared.instruction.Inst.{Inst}
use Rattle.ir_types.specs.declared.instruction.Inst.TheVariants as insts
use Rattle.ir_types.specs.declared.instruction.Operand.{Operand}
use Rattle.ir_types.specs.declared.operation.BinOp.{BinOp}
use Rattle.ir_types.specs.declared.operation.BinOp.TheVariants.{Add, Sub, Mul, And, Or, Xor, Udiv, Urem, Sdiv, Srem, Shl, Lshr, Ashr}
use Rattle.ir_types.specs.declared.operation.CmpOp.{CmpOp}
use Rattle.ir_types.specs.declared.operation.CmpOp.TheVariants.{Eq, Ne, Ugt, Uge, Ult, Ule, Sgt, Sge, Slt, Sle}
use Rattle.ir_types.specs.declared.operation.ConvOp.TheVariants.{Trunc, Zext, Sext}
use Rattle.ir_types.specs.declared.word.Kind.{Kind}
use Rattle.ir_types.specs.declared.word.Kind.TheVariants.{Int, Ptr}
use Rattle.ir_types.specs.declared.word.Width.{Width}
use Rattle.ir_types.specs.declared.word.Width.TheVariants.{W64}
use Rattle.ir_types.specs.Width.{bits_of}
use Rattle.instruction_check.specs.declared.operations.Cast.{Cast}
use Rattle.instruction_check.specs.declared.operations.Cast.TheVariants.{Truncate, ZeroExtend, SignExtend, PointerToInteger, IntegerToPointer}

abbrev pub division_of : List ℕ → BinOp
division_of word =
    if bytes_eq word (codes "udiv") then Udiv
    else if bytes_eq word (codes "urem") then Urem
    else if bytes_eq word (codes "sdiv") then Sdiv
    else if bytes_eq word (codes "srem") then Srem
    else if bytes_eq word (codes "shl") then Shl
    else if bytes_eq word (codes "lshr") then Lshr
    else Ashr

abbrev pub binary_of : List ℕ → BinOp
binary_of word =
    if bytes_eq word (codes "add") then Add
    else if bytes_eq word (codes "sub") then Sub
    else if bytes_eq word (codes "mul") then Mul
    else if bytes_eq word (codes "and") then And
    else if bytes_eq word (codes "or") then Or
    else if bytes_eq word (codes "xor") then Xor
    else division_of word

abbrev pub signed_predicate_of : List ℕ → CmpOp
signed_predicate_of word =
    if bytes_eq word (codes "sgt") then Sgt
    else if bytes_eq word (codes "sge") then Sge
    else if bytes_eq word (codes "slt") then Slt
    else Sle

abbrev pub predicate_of : List ℕ → CmpOp
predicate_of word =
    if bytes_eq word (codes "eq") then Eq
    else if bytes_eq word (codes "ne") then Ne
    else if bytes_eq word (codes "ugt") then Ugt
    else if bytes_eq word (codes "uge") then Uge
    else if bytes_eq word (codes "ult") then Ult
    else if bytes_eq word (codes "ule") then Ule
    else signed_predicate_of word

abbrev pub cast_of : List ℕ → Cast
cast_of word =
    if bytes_eq word (codes "trunc") then Truncate
    else if bytes_eq word (codes "zext") then ZeroExtend
    else if bytes_eq word (codes "sext") then SignExtend
    else if bytes_eq word (codes "ptrtoint") then PointerToInteger
    else IntegerToPointer

-- `trunc` leads to fewer bits, `zext` and `sext` to more
abbrev pub can_cast : Cast → Kind → Kind → Bool
can_cast Truncate (Int from) (Int to) = nat_lt (bits_of to) (bits_of from)
can_cast ZeroExtend (Int from) (Int to) = nat_lt (bits_of from) (bits_of to)
can_cast SignExtend (Int from) (Int to) = nat_lt (bits_of from) (bits_of to)
can_cast PointerToInteger Ptr (Int to) = true
can_cast IntegerToPointer (Int from) Ptr = true
can_cast _ _ _ = false

-- the lowest bits of a pointer
abbrev pub narrowed : ℕ → Operand → Width → Inst
narrowed to operand W64 = insts.Same to operand
narrowed to operand width = insts.Convert to Trunc operand width

-- a pointer of an integer's bits, extended by zeros
abbrev pub widened : ℕ → Operand → Width → Inst
widened to operand W64 = insts.Same to operand
widened to operand from = insts.Convert to Zext operand W64

abbrev pub converted : ℕ → Cast → Operand → Width → Width → Inst
converted to Truncate operand from width = insts.Convert to Trunc operand width
converted to ZeroExtend operand from width = insts.Convert to Zext operand width
converted to SignExtend operand from width = insts.Convert to Sext operand width
converted to PointerToInteger operand from width = narrowed to operand width
converted to IntegerToPointer operand from width = widened to operand from
