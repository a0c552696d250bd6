-- The format of `printf`, as fprintf of the C standard has it: ordinary characters, and conversion specifications that
-- begin with '%', of which some are served.
use Rattle.std.specs.Prelude.{ℕ, List, [], ◌∷◌, Option, Some, None, option_map, ◌||◌, ◌==◌, if◌then◌else◌}
use Rattle.ir_types.specs.declared.external.ItemKind.{ItemKind}
use Rattle.ir_types.specs.declared.external.ItemKind.TheVariants as items
use Rattle.ir_types.specs.declared.external.Piece.{Piece}
use Rattle.ir_types.specs.declared.external.Piece.TheVariants as pieces
use Rattle.ir_types.specs.declared.word.Kind.{Kind}
use Rattle.ir_types.specs.declared.word.Kind.TheVariants.{Int, Ptr}
use Rattle.ir_types.specs.declared.word.Width.TheVariants.{W32, W64}
use Rattle.external_calls.specs.declared.format.Conversion.{Conversion}
use Rattle.external_calls.specs.declared.format.Conversion.TheVariants as conversions
use Rattle.external_calls.specs.declared.format.Mode.{Mode}
use Rattle.external_calls.specs.declared.format.Mode.TheVariants as modes
use Rattle.external_calls.specs.declared.format.Read.{Read}
use Rattle.external_calls.specs.declared.format.Read.TheVariants as reads

-- ---- what each byte is

-- d or i, u, x
abbrev pub number : ItemKind → ItemKind → ItemKind → ℕ → Read
number signed unsigned hexadecimal byte =
    if byte == 100 || byte == 105 then reads.Converts (conversions.Number signed)
    else if byte == 117 then reads.Converts (conversions.Number unsigned)
    else if byte == 120 then reads.Converts (conversions.Number hexadecimal)
    else reads.Unknown

abbrev pub long_number : ℕ → Read
long_number byte = number items.D64 items.U64 items.X64 byte

-- a zero byte ends the format
abbrev pub ordinary : ℕ → Read
ordinary byte =
    if byte == 0 then reads.Ends
    else if byte == 37 then reads.Goes modes.Percent
    else reads.Prints byte

-- behind '%': another '%', l, z, c, s, or a number of 32 bits
abbrev pub specified : ℕ → Read
specified byte =
    if byte == 37 then reads.Prints 37
    else if byte == 108 then reads.Goes modes.Long
    else if byte == 122 then reads.Goes modes.Size
    else if byte == 99 then reads.Converts conversions.Character
    else if byte == 115 then reads.Converts conversions.Str
    else number items.D32 items.U32 items.X32 byte

abbrev pub read_byte : Mode → ℕ → Read
read_byte modes.Ordinary byte = ordinary byte
read_byte modes.Percent byte = specified byte
read_byte modes.Long byte = if byte == 108 then reads.Goes modes.LongLong else long_number byte
read_byte modes.LongLong byte = long_number byte
read_byte modes.Size byte = long_number byte

-- ---- the pieces

abbrev pub piece_of : Conversion → Piece
piece_of (conversions.Number kind) = pieces.Number kind
piece_of conversions.Character = pieces.Character
piece_of conversions.Str = pieces.Str

-- a byte that is printed before the pieces belongs to the literal with which they begin
abbrev pub put_byte : ℕ → List Piece → List Piece
put_byte byte (pieces.Literal bytes ∷ rest) = pieces.Literal (byte ∷ bytes) ∷ rest
put_byte byte rest = pieces.Literal (byte ∷ []) ∷ rest

-- what a byte that was read does to the pieces of what follows it
abbrev pub put : Read → (Mode → Option (List Piece)) → Option (List Piece)
put (reads.Goes mode) rest = rest mode
put (reads.Prints byte) rest = option_map (put_byte byte) (rest modes.Ordinary)
put (reads.Converts conversion) rest = option_map (λ more. piece_of conversion ∷ more) (rest modes.Ordinary)
put reads.Ends rest = Some []
put reads.Unknown rest = None

abbrev pub pieces_from : Mode → List ℕ → Option (List Piece)
pieces_from mode [] = None
pieces_from mode (byte ∷ bytes) = put (read_byte mode byte) (λ next. pieces_from next bytes)

-- the pieces of the format that the bytes begin with, up to their first zero byte; none where there is no zero byte, or
-- where a conversion specification isn't served
unfoldable pub pieces_of : List ℕ → Option (List Piece)
pieces_of bytes = pieces_from modes.Ordinary bytes

-- ---- the arguments

abbrev pub kind_of_number : ItemKind → Kind
kind_of_number items.D64 = Int W64
kind_of_number items.U64 = Int W64
kind_of_number items.X64 = Int W64
kind_of_number _ = Int W32

-- the kind of the argument that a piece takes
unfoldable pub argument_kind : Piece → Option Kind
argument_kind (pieces.Literal bytes) = None
argument_kind (pieces.Number kind) = Some (kind_of_number kind)
argument_kind pieces.Character = Some (Int W32)
argument_kind pieces.Str = Some Ptr
