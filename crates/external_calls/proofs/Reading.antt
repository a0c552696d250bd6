-- Pieces that were read from the front of a format, with those of what is left.
use Rattle.std.proofs.Common.{◌≡◌, ◌∙◌, ◌+◌, ◌<◌, refl, sym, ap, append_assoc, get_or, drop, length, add-one, drop-cons}
use Rattle.std.specs.Prelude.{ℕ, List, [], ◌∷◌, ◌++◌, Option, Some, None, option_map}
use Rattle.ir_types.specs.declared.external.Piece.{Piece}
use Rattle.external_calls.specs.declared.format.Conversion.{Conversion}
use Rattle.external_calls.specs.declared.format.Conversion.TheVariants as conversions
use Rattle.external_calls.specs.declared.format.Mode.{Mode}
use Rattle.external_calls.specs.declared.format.Mode.TheVariants as modes
use Rattle.external_calls.specs.declared.format.Read.{Read}
use Rattle.external_calls.specs.declared.format.Read.TheVariants as reads
use Rattle.external_calls.specs.Format.{piece_of, pieces_from, put, put_byte, read_byte}
use Rattle.external_calls.specs.Pieces.{literal_of}

-- bytes that are printed before the pieces
abbrev pub put_bytes : List ℕ → List Piece → List Piece
put_bytes [] rest = rest
put_bytes (byte ∷ bytes) rest = put_byte byte (put_bytes bytes rest)

abbrev pub completed : List Piece → List ℕ → Option (List Piece) → Option (List Piece)
completed done literal rest = option_map (λ more. done ++ put_bytes literal more) rest

pub put_last : (bytes : List ℕ) (byte : ℕ) (rest : List Piece) → put_bytes (bytes ++ byte ∷ []) rest ≡ put_bytes bytes (put_byte byte rest)
put_last [] byte rest = refl
put_last (first ∷ bytes) byte rest = ap (put_byte first) (put_last bytes byte rest)

pub put_before : (bytes : List ℕ) (conversion : Conversion) (rest : List Piece) →
    put_bytes bytes (piece_of conversion ∷ rest) ≡ literal_of bytes ++ piece_of conversion ∷ rest
put_before [] conversion rest = refl
put_before (byte ∷ []) (conversions.Number kind) rest = refl
put_before (byte ∷ []) conversions.Character rest = refl
put_before (byte ∷ []) conversions.Str rest = refl
put_before (byte ∷ next ∷ bytes) conversion rest = ap (put_byte byte) (put_before (next ∷ bytes) conversion rest)

pub put_at_end : (bytes : List ℕ) → put_bytes bytes [] ≡ literal_of bytes
put_at_end [] = refl
put_at_end (byte ∷ []) = refl
put_at_end (byte ∷ next ∷ bytes) = ap (put_byte byte) (put_at_end (next ∷ bytes))

-- ---- one byte more

prints_before : (done : List Piece) (literal : List ℕ) (byte : ℕ) (rest : Option (List Piece)) →
    completed done literal (option_map (put_byte byte) rest) ≡ completed done (literal ++ byte ∷ []) rest
prints_before done literal byte None = refl
prints_before done literal byte (Some more) = ap (λ (all : List Piece). Some (done ++ all)) (sym (put_last literal byte more))

converts_before : (done : List Piece) (literal : List ℕ) (conversion : Conversion) (rest : Option (List Piece)) →
    completed done literal (option_map (λ more. piece_of conversion ∷ more) rest)
    ≡ completed (done ++ literal_of literal ++ piece_of conversion ∷ []) [] rest
converts_before done literal conversion None = refl
converts_before done literal conversion (Some more) =
    ap (λ (all : List Piece). Some (done ++ all)) (put_before literal conversion more)
    ∙ ap (λ (all : List Piece). Some all) (simp append_assoc)

ends_before : (done : List Piece) (literal : List ℕ) → completed done literal (Some []) ≡ Some (done ++ literal_of literal)
ends_before done literal = ap (λ (all : List Piece). Some (done ++ all)) (put_at_end literal)

-- ---- at a place in the bytes

-- a byte at a place, and what it is
abbrev pub IsRead : List ℕ → ℕ → Mode → Read → Type 0
IsRead bytes index mode read = (index < length bytes) × (read ≡ read_byte mode (get_or bytes index 0))

read_on : (bytes : List ℕ) (index : ℕ) (mode : Mode) (read : Read) → IsRead bytes index mode read →
    pieces_from mode (drop index bytes) ≡ put read (λ next. pieces_from next (drop (index + 1) bytes))
read_on bytes index mode read is =
    let within = is.0 in
    rw (is.1, add-one, drop-cons bytes index 0) refl

pub goes_on : (done : List Piece) (literal bytes : List ℕ) (index : ℕ) (mode next : Mode) →
    IsRead bytes index mode (reads.Goes next) →
    completed done literal (pieces_from next (drop (index + 1) bytes)) ≡ completed done literal (pieces_from mode (drop index bytes))
goes_on done literal bytes index mode next is =
    ap (completed done literal) (sym (read_on bytes index mode (reads.Goes next) is))

pub prints : (done : List Piece) (literal bytes : List ℕ) (index : ℕ) (mode : Mode) (byte : ℕ) →
    IsRead bytes index mode (reads.Prints byte) →
    completed done (literal ++ byte ∷ []) (pieces_from modes.Ordinary (drop (index + 1) bytes))
    ≡ completed done literal (pieces_from mode (drop index bytes))
prints done literal bytes index mode byte is =
    sym (prints_before done literal byte (pieces_from modes.Ordinary (drop (index + 1) bytes)))
    ∙ ap (completed done literal) (sym (read_on bytes index mode (reads.Prints byte) is))

pub converts : (done : List Piece) (literal bytes : List ℕ) (index : ℕ) (mode : Mode) (conversion : Conversion) →
    IsRead bytes index mode (reads.Converts conversion) →
    completed (done ++ literal_of literal ++ piece_of conversion ∷ []) [] (pieces_from modes.Ordinary (drop (index + 1) bytes))
    ≡ completed done literal (pieces_from mode (drop index bytes))
converts done literal bytes index mode conversion is =
    sym (converts_before done literal conversion (pieces_from modes.Ordinary (drop (index + 1) bytes)))
    ∙ ap (completed done literal) (sym (read_on bytes index mode (reads.Converts conversion) is))

pub ends : (done : List Piece) (literal bytes : List ℕ) (index : ℕ) (mode : Mode) →
    IsRead bytes index mode reads.Ends →
    Some (done ++ literal_of literal) ≡ completed done literal (pieces_from mode (drop index bytes))
ends done literal bytes index mode is =
    sym (ends_before done literal) ∙ ap (completed done literal) (sym (read_on bytes index mode reads.Ends is))
