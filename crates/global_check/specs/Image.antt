-- Bytes that are written into an image.
use Rattle.std.specs.Prelude.{ℕ, ◌+◌, ◌-◌, zero, suc, ◌&&◌, nat_le, List, [], ◌∷◌, ◌++◌, length, take, drop, if◌then◌else◌}
use Rattle.std.specs.Int.{to_le_bytes, w64}
use Rattle.ir_types.specs.declared.instruction.Operand.{Operand}
use Rattle.ir_types.specs.declared.instruction.Operand.TheVariants as operands
use Rattle.ir_types.specs.declared.word.Kind.{Kind}
use Rattle.ir_types.specs.Kind.{size_of}

abbrev pub zeros : ℕ → List ℕ
zeros zero = []
zeros (suc len) = zeros len ++ 0 ∷ []

-- bytes that don't lie within it leave it as it is
abbrev pub put : List ℕ → ℕ → List ℕ → List ℕ
put image place bytes =
    if nat_le (length bytes) (length image) && nat_le place (length image - length bytes)
    then take place image ++ bytes ++ drop (place + length bytes) image
    else image

-- the least first
abbrev pub bytes_of : Kind → Operand → List ℕ
bytes_of kind (operands.Constant word) = take (size_of kind) (to_le_bytes w64 word.bits)
bytes_of kind (operands.Register number) = []
