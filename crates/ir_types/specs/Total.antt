-- Operations as functions that have a value everywhere: that of the table, and a fixed number where the table has a trap.
use Rattle.std.specs.Prelude.{ℕ, ◌-◌, ◌^◌, Result, Ok, Err}
use Rattle.ir_types.specs.declared.operation.BinOp.{BinOp}
use Rattle.ir_types.specs.declared.operation.BinOp.TheVariants.{Add, Sub, Mul, And, Or, Xor, Udiv, Urem, Sdiv, Srem, Shl, Lshr, Ashr}
use Rattle.ir_types.specs.declared.operation.OpTrap.{OpTrap}
use Rattle.ir_types.specs.declared.operation.OpTrap.TheVariants.{DivZero, DivOverflow, Overshift}
use Rattle.ir_types.specs.Operation.{binary_value}

-- of the operations at a width, the signed division alone gives something where it overflows: the least value
abbrev pub on_overflow : BinOp → ℕ → ℕ
on_overflow Sdiv w = 2 ^ (w - 1)
on_overflow Add w = 0
on_overflow Sub w = 0
on_overflow Mul w = 0
on_overflow And w = 0
on_overflow Or w = 0
on_overflow Xor w = 0
on_overflow Udiv w = 0
on_overflow Urem w = 0
on_overflow Srem w = 0
on_overflow Shl w = 0
on_overflow Lshr w = 0
on_overflow Ashr w = 0

abbrev pub on_trap : BinOp → ℕ → OpTrap → ℕ
on_trap op w DivOverflow = on_overflow op w
on_trap op w DivZero = 0
on_trap op w Overshift = 0

abbrev pub or_on_trap : BinOp → ℕ → Result ℕ OpTrap → ℕ
or_on_trap op w (Ok value) = value
or_on_trap op w (Err trap) = on_trap op w trap

abbrev pub total_value : BinOp → ℕ → ℕ → ℕ → ℕ
total_value op w a b = or_on_trap op w (binary_value op w a b)
