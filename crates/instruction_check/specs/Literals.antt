-- The kinds that types spell, and the constants that literals spell.
use Rattle.std.specs.Prelude.{ℕ, [], ◌∷◌, ◌%◌, ◌^◌, Bool, true, false, not, ◌||◌, List, codes, bytes_eq, Some, unwrap_or, if◌then◌else◌}
use Rattle.std.proofs.Math.Nat.{mod-lt}
use Rattle.std.proofs.lemmas.Nat.{pow_pos}
use Rattle.ir_types.specs.declared.instruction.Operand.{Operand}
use Rattle.ir_types.specs.declared.instruction.Operand.TheVariants as operands
use Rattle.ir_types.specs.declared.word.Kind.{Kind}
use Rattle.ir_types.specs.declared.word.Kind.TheVariants.{Int, Ptr}
use Rattle.ir_types.specs.declared.word.Width.{Width}
use Rattle.ir_types.specs.declared.word.Width.TheVariants.{W1, W8, W16, W32, W64}
use Rattle.ir_types.specs.declared.word.Word.{Word}
use Rattle.ir_types.specs.Kind as kinds
use Rattle.ir_types.specs.Width.{bits_of}
use Rattle.ir_read.specs.declared.terminal.Terminal.{Terminal}
use Rattle.ir_read.specs.declared.terminal.Terminal.TheVariants as t
use Rattle.ir_read.specs.Node.{Told}
use Rattle.ir_read.specs.Terminal.{literal_of}
use Rattle.module_fault.specs.declared.cause.Cause.TheVariants.{TypeMismatch}
use Rattle.module_fault.specs.declared.cause.Found.{Found}
use Rattle.module_fault.specs.Cause.{unless}

-- the lowest bits of a number
abbrev pub word_of : Width → ℕ → Word
word_of width number = record {
  width = width;
  bits = number % 2 ^ bits_of width;
  in_range = mod-lt number (pow_pos (bits_of width));
}

abbrev pub lowest : Kind → ℕ → Word
lowest kind number = word_of (kinds.width_of kind) number

abbrev pub constant : Kind → ℕ → Operand
constant kind number = operands.Constant (lowest kind number)

abbrev pub width_of : List ℕ → Width
width_of text =
    if bytes_eq text (codes "i1") then W1
    else if bytes_eq text (codes "i8") then W8
    else if bytes_eq text (codes "i16") then W16
    else if bytes_eq text (codes "i32") then W32
    else W64

-- what a register of a type of one word holds
abbrev pub kind_by : Terminal → List ℕ → Kind
kind_by t.Int text = Int (width_of text)
kind_by _ text = Ptr

abbrev pub kind_of : Told → Kind
kind_of node = kind_by node.terminal node.text

abbrev pub is_integer : Kind → Bool
is_integer (Int width) = true
is_integer Ptr = false

-- a number is of every integer
abbrev pub number : Kind → List ℕ → Found Word
number kind text = record {
  value = lowest kind (unwrap_or (literal_of text) 0);
  cause = unless (is_integer kind) TypeMismatch;
}

-- `true` and `false` are of i1, `null` is of ptr, `zeroinitializer` of every kind
abbrev pub is_of_kind : Kind → List ℕ → Bool
is_of_kind Ptr text = bytes_eq text (codes "null") || bytes_eq text (codes "zeroinitializer")
is_of_kind (Int W1) text = not (bytes_eq text (codes "null"))
is_of_kind (Int _) text = bytes_eq text (codes "zeroinitializer")

abbrev pub word : Kind → List ℕ → Found Word
word kind text = record {
  value = lowest kind (if bytes_eq text (codes "true") then 1 else 0);
  cause = unless (is_of_kind kind text) TypeMismatch;
}

abbrev pub no_literal : Kind → Found Word
no_literal kind = record { value = lowest kind 0; cause = Some TypeMismatch }

abbrev pub literal_by : Kind → Terminal → List ℕ → Found Word
literal_by kind t.Natural text = number kind text
literal_by kind t.Negative text = number kind text
literal_by kind t.LiteralWord text = word kind text
literal_by kind _ text = no_literal kind

-- the word of a kind that a literal spells
abbrev pub literal : Kind → Told → Found Word
literal kind node = literal_by kind node.terminal node.text

abbrev pub literal_in : Kind → List Told → Found Word
literal_in kind [] = no_literal kind
literal_in kind (node ∷ rest) = literal kind node

-- the constant of a kind that a literal spells
abbrev pub constant_of : Kind → Told → Found Operand
constant_of kind node =
    let found = literal kind node in
    record { value = operands.Constant found.value; cause = found.cause }
