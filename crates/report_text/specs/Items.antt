-- ITEMS: what a run printed.
use Rattle.std.specs.Prelude.{ℕ, ◌/◌, ◌%◌, ◌^◌, false, List, [], ◌∷◌, ◌++◌, codes, decimal, map}
use Rattle.std.specs.Fmt.{digit_glyph, digits, signed_decimal}
use Rattle.ir_types.specs.declared.external.ItemKind.{ItemKind}
use Rattle.ir_types.specs.declared.external.ItemKind.TheVariants.{Byte, D32, D64, U32, U64, X32, X64, Status}
use Rattle.ir_types.specs.declared.word.Width.{Width}
use Rattle.ir_types.specs.declared.word.Width.TheVariants.{W8, W32, W64}
use Rattle.ir_types.specs.Operation.{signed_value}
use Rattle.ir_types.specs.Width.{bits_of}
use Rattle.run_types.specs.declared.out_item.OutItem.{OutItem}
use Rattle.report_text.specs.Lines.{words_text}

abbrev pub width_of : ItemKind → Width
width_of Byte = W8
width_of D32 = W32
width_of D64 = W64
width_of U32 = W32
width_of U64 = W64
width_of X32 = W32
width_of X64 = W64
width_of Status = W8

-- the number that an item prints: its lowest bits, as many as its kind has
abbrev pub number_of : OutItem → ℕ
number_of item = item.bits % 2 ^ bits_of (width_of item.kind)

-- lower-case hexadecimal without leading zeros
abbrev pub hexadecimal : ℕ → List ℕ
hexadecimal number = digits 16 false number

-- two lower-case hexadecimal digits
abbrev pub byte_digits : ℕ → List ℕ
byte_digits byte = digit_glyph false (byte / 16) ∷ digit_glyph false (byte % 16) ∷ []

-- what stands before the number of an item
abbrev pub prefix_of : ItemKind → List ℕ
prefix_of Byte = codes "b"
prefix_of D32 = codes "d32:"
prefix_of D64 = codes "d64:"
prefix_of U32 = codes "u32:"
prefix_of U64 = codes "u64:"
prefix_of X32 = codes "x32:"
prefix_of X64 = codes "x64:"
prefix_of Status = codes "s"

abbrev pub number_text : ItemKind → ℕ → List ℕ
number_text Byte number = byte_digits number
number_text D32 number = signed_decimal (signed_value 32 number)
number_text D64 number = signed_decimal (signed_value 64 number)
number_text U32 number = decimal number
number_text U64 number = decimal number
number_text X32 number = hexadecimal number
number_text X64 number = hexadecimal number
number_text Status number = decimal number

abbrev pub item_text : OutItem → List ℕ
item_text item = prefix_of item.kind ++ number_text item.kind (number_of item)

abbrev pub items_text : List OutItem → List ℕ
items_text items = words_text (map item_text items)
