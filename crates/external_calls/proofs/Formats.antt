-- Bytes are read exactly as the pieces that they spell.
use Rattle.std.proofs.Common.{◌≡◌, ◌∙◌, ℕ, true, false, List, [], ◌∷◌, ◌++◌, Option, Some, None, refl, sym, ap, subst, append_assoc, option_map, arith, inl, inr}
use Rattle.std.specs.Prelude.{codes, ◌==◌, ◌||◌}
use Rattle.std.proofs.lemmas.Bool.{cond_both, eqb-true, or_cases}
use Rattle.std.proofs.lemmas.Bool.Decides.{nat_tests}
use Rattle.std.proofs.lemmas.Option.{same_Some}
use Rattle.ir_types.specs.declared.external.ItemKind.{ItemKind}
use Rattle.ir_types.specs.declared.external.ItemKind.TheVariants as items
use Rattle.ir_types.specs.declared.external.Piece.{Piece}
use Rattle.ir_types.specs.declared.external.Piece.TheVariants as pieces
use Rattle.external_calls.specs.declared.format.Conversion.TheVariants as conversions
use Rattle.external_calls.specs.declared.format.Mode.{Mode}
use Rattle.external_calls.specs.declared.format.Mode.TheVariants as modes
use Rattle.external_calls.specs.declared.format.Read.{Read}
use Rattle.external_calls.specs.declared.format.Read.TheVariants as reads
use Rattle.external_calls.specs.Format.{number, ordinary, piece_of, pieces_from, pieces_of, put, put_byte, read_byte, specified}
use Rattle.external_calls.specs.Laws.{BeginsWith, Spells, Nothing, Printed, Specified, Prints, Itself, Percent, Specifies, Number, Character, Str, Plain, L, LL, Z, D, I, U, X, are_joined, is_ordinary}

-- ---- what is spelled is read

ordinary_is : (byte : ℕ) → is_ordinary byte ≡ true → ordinary byte ≡ reads.Prints byte
ordinary_is byte is = grind (arith, nat_tests)

printed_reads : (text : List ℕ) (byte : ℕ) (rest : List ℕ) → Prints text byte →
    pieces_from modes.Ordinary (text ++ rest) ≡ option_map (put_byte byte) (pieces_from modes.Ordinary rest)
printed_reads text byte rest (Itself one is) = rw (ordinary_is one is) refl
printed_reads text byte rest Percent = refl

specified_reads : (text : List ℕ) (piece : Piece) (rest : List ℕ) → Specifies text piece →
    pieces_from modes.Ordinary (text ++ rest) ≡ option_map (λ more. piece ∷ more) (pieces_from modes.Ordinary rest)
specified_reads text piece rest (Number Plain D) = refl
specified_reads text piece rest (Number Plain I) = refl
specified_reads text piece rest (Number Plain U) = refl
specified_reads text piece rest (Number Plain X) = refl
specified_reads text piece rest (Number L D) = refl
specified_reads text piece rest (Number L I) = refl
specified_reads text piece rest (Number L U) = refl
specified_reads text piece rest (Number L X) = refl
specified_reads text piece rest (Number LL D) = refl
specified_reads text piece rest (Number LL I) = refl
specified_reads text piece rest (Number LL U) = refl
specified_reads text piece rest (Number LL X) = refl
specified_reads text piece rest (Number Z D) = refl
specified_reads text piece rest (Number Z I) = refl
specified_reads text piece rest (Number Z U) = refl
specified_reads text piece rest (Number Z X) = refl
specified_reads text piece rest Character = refl
specified_reads text piece rest Str = refl

spelled_reads : (format : List ℕ) (found : List Piece) (rest : List ℕ) → Spells format found →
    pieces_from modes.Ordinary (format ++ 0 ∷ rest) ≡ Some found
spelled_reads format found rest Nothing = refl
spelled_reads format found rest (Printed {text = text} {format = more} {byte = byte} {rest = pieces} prints spells) =
    ap (pieces_from modes.Ordinary) (append_assoc text more (0 ∷ rest)) ∙ printed_reads text byte (more ++ 0 ∷ rest) prints
    ∙ ap (option_map (put_byte byte)) (spelled_reads more pieces rest spells)
spelled_reads format found rest (Specified {text = text} {format = more} {piece = piece} {rest = pieces} specifies spells) =
    ap (pieces_from modes.Ordinary) (append_assoc text more (0 ∷ rest)) ∙ specified_reads text piece (more ++ 0 ∷ rest) specifies
    ∙ ap (option_map (λ (all : List Piece). piece ∷ all)) (spelled_reads more pieces rest spells)

pub begins_reads : (bytes : List ℕ) (found : List Piece) → BeginsWith bytes found → pieces_of bytes ≡ Some found
unfolding pieces_of
begins_reads bytes found begins = rw begins.bytes-are (spelled_reads begins.format found begins.rest begins.spells)

-- ---- what is read is spelled

-- what was read of a conversion specification
abbrev front : Mode → List ℕ
front modes.Ordinary = []
front modes.Percent = codes "%"
front modes.Long = codes "%l"
front modes.LongLong = codes "%ll"
front modes.Size = codes "%z"

-- what a byte is behind these bytes
abbrev Explains : List ℕ → ℕ → Read → Type 0
Explains before byte (reads.Goes next) = before ++ byte ∷ [] ≡ front next
Explains before byte (reads.Prints printed) = Prints (before ++ byte ∷ []) printed
Explains before byte (reads.Converts conversion) = Specifies (before ++ byte ∷ []) (piece_of conversion)
Explains before byte reads.Ends = before ++ byte ∷ [] ≡ 0 ∷ []
Explains before byte reads.Unknown = Unit {0}

at_byte : (before : List ℕ) (byte known : ℕ) (read : Read) → (byte == known) ≡ true → Explains before known read → Explains before byte read
at_byte before byte known read same known_is = subst (λ (one : ℕ). Explains before one read) (sym (eqb-true byte known same)) known_is

number_explained : (before : List ℕ) (signed unsigned hexadecimal : ItemKind) (byte : ℕ) →
    Specifies (before ++ codes "d") (pieces.Number signed) → Specifies (before ++ codes "i") (pieces.Number signed) →
    Specifies (before ++ codes "u") (pieces.Number unsigned) → Specifies (before ++ codes "x") (pieces.Number hexadecimal) →
    Explains before byte (number signed unsigned hexadecimal byte)
number_explained before signed unsigned hexadecimal byte d i u x =
    cond_both (byte == 100 || byte == 105) _ _ (Explains before byte)
    (λ is. elim (or_cases (byte == 100) (byte == 105) is) [
      | inl same ↦ at_byte before byte 100 (reads.Converts (conversions.Number signed)) same d
      | inr same ↦ at_byte before byte 105 (reads.Converts (conversions.Number signed)) same i
    ])
    (λ _. cond_both (byte == 117) _ _ (Explains before byte)
    (λ same. at_byte before byte 117 (reads.Converts (conversions.Number unsigned)) same u)
    (λ _. cond_both (byte == 120) _ _ (Explains before byte)
    (λ same. at_byte before byte 120 (reads.Converts (conversions.Number hexadecimal)) same x)
    (λ _. tt)))

ordinary_from : (byte : ℕ) → (byte == 0) ≡ false → (byte == 37) ≡ false → is_ordinary byte ≡ true
ordinary_from byte zero percent = rw (zero, percent) refl

ordinary_explained : (byte : ℕ) → Explains [] byte (ordinary byte)
ordinary_explained byte =
    cond_both (byte == 0) _ _ (Explains [] byte)
    (λ same. at_byte [] byte 0 reads.Ends same refl)
    (λ zero. cond_both (byte == 37) _ _ (Explains [] byte)
    (λ same. at_byte [] byte 37 (reads.Goes modes.Percent) same refl)
    (λ percent. Itself byte (ordinary_from byte zero percent)))

specified_explained : (byte : ℕ) → Explains (codes "%") byte (specified byte)
specified_explained byte =
    cond_both (byte == 37) _ _ (Explains (codes "%") byte)
    (λ same. at_byte (codes "%") byte 37 (reads.Prints 37) same Percent)
    (λ _. cond_both (byte == 108) _ _ (Explains (codes "%") byte)
    (λ same. at_byte (codes "%") byte 108 (reads.Goes modes.Long) same refl)
    (λ _. cond_both (byte == 122) _ _ (Explains (codes "%") byte)
    (λ same. at_byte (codes "%") byte 122 (reads.Goes modes.Size) same refl)
    (λ _. cond_both (byte == 99) _ _ (Explains (codes "%") byte)
    (λ same. at_byte (codes "%") byte 99 (reads.Converts conversions.Character) same Character)
    (λ _. cond_both (byte == 115) _ _ (Explains (codes "%") byte)
    (λ same. at_byte (codes "%") byte 115 (reads.Converts conversions.Str) same Str)
    (λ _. number_explained (codes "%") items.D32 items.U32 items.X32 byte
    (Number Plain D) (Number Plain I) (Number Plain U) (Number Plain X))))))

explained : (mode : Mode) (byte : ℕ) → Explains (front mode) byte (read_byte mode byte)
explained modes.Ordinary byte = ordinary_explained byte
explained modes.Percent byte = specified_explained byte
explained modes.Long byte =
    cond_both (byte == 108) _ _ (Explains (codes "%l") byte)
    (λ same. at_byte (codes "%l") byte 108 (reads.Goes modes.LongLong) same refl)
    (λ _. number_explained (codes "%l") items.D64 items.U64 items.X64 byte (Number L D) (Number L I) (Number L U) (Number L X))
explained modes.LongLong byte =
    number_explained (codes "%ll") items.D64 items.U64 items.X64 byte (Number LL D) (Number LL I) (Number LL U) (Number LL X)
explained modes.Size byte =
    number_explained (codes "%z") items.D64 items.U64 items.X64 byte (Number Z D) (Number Z I) (Number Z U) (Number Z X)

mapped : {A B : Type 0} (f : A → B) (from : Option A) (to : B) → option_map f from ≡ Some to → (x : A) × (from ≡ Some x) × (f x ≡ to)
mapped f None to is = cc
mapped f (Some x) to is = (x, refl, same_Some _ _ is)

-- a part of a format, and then what is left of the bytes
behind_part : (before bytes : List ℕ) (byte : ℕ) (more : List Piece) (begins : BeginsWith bytes more) →
    before ++ byte ∷ bytes ≡ ((before ++ byte ∷ []) ++ begins.format) ++ 0 ∷ begins.rest
behind_part before bytes byte more begins =
    sym (append_assoc before (byte ∷ []) bytes) ∙ ap (λ (rest : List ℕ). (before ++ byte ∷ []) ++ rest) begins.bytes-are
    ∙ sym (append_assoc (before ++ byte ∷ []) begins.format (0 ∷ begins.rest))

step_read : (before bytes : List ℕ) (byte : ℕ) (read : Read) (found : List Piece) → Explains before byte read →
    ((next : Mode) (more : List Piece) → pieces_from next bytes ≡ Some more → BeginsWith (front next ++ bytes) more) →
    put read (λ next. pieces_from next bytes) ≡ Some found → BeginsWith (before ++ byte ∷ bytes) found
step_read before bytes byte (reads.Goes next) found why behind is =
    let begins = behind next found is in
    record {
      format = begins.format;
      rest = begins.rest;
      bytes-are = sym (append_assoc before (byte ∷ []) bytes) ∙ ap (λ (some : List ℕ). some ++ bytes) why ∙ begins.bytes-are;
      spells = begins.spells;
    }
step_read before bytes byte (reads.Prints printed) found why behind is =
    let rest = mapped (put_byte printed) (pieces_from modes.Ordinary bytes) found is in
    let begins = behind modes.Ordinary rest.0 rest.1 in
    record {
      format = (before ++ byte ∷ []) ++ begins.format;
      rest = begins.rest;
      bytes-are = behind_part before bytes byte rest.0 begins;
      spells = subst (Spells ((before ++ byte ∷ []) ++ begins.format)) rest.2 (Printed why begins.spells);
    }
step_read before bytes byte (reads.Converts conversion) found why behind is =
    let rest = mapped (λ (more : List Piece). piece_of conversion ∷ more) (pieces_from modes.Ordinary bytes) found is in
    let begins = behind modes.Ordinary rest.0 rest.1 in
    record {
      format = (before ++ byte ∷ []) ++ begins.format;
      rest = begins.rest;
      bytes-are = behind_part before bytes byte rest.0 begins;
      spells = subst (Spells ((before ++ byte ∷ []) ++ begins.format)) rest.2 (Specified why begins.spells);
    }
step_read before bytes byte reads.Ends found why behind is =
    record {
      format = [];
      rest = bytes;
      bytes-are = sym (append_assoc before (byte ∷ []) bytes) ∙ ap (λ (some : List ℕ). some ++ bytes) why;
      spells = subst (Spells []) (same_Some _ _ is) Nothing;
    }
step_read before bytes byte reads.Unknown found why behind is = cc

pub read_begins : (bytes : List ℕ) (mode : Mode) (found : List Piece) → pieces_from mode bytes ≡ Some found → BeginsWith (front mode ++ bytes) found
read_begins [] mode found is = cc
read_begins (byte ∷ bytes) mode found is =
    step_read (front mode) bytes byte (read_byte mode byte) found (explained mode byte) (λ next more next_is. read_begins bytes next more next_is) is

-- ---- literals

joined_put : (byte : ℕ) (rest : List Piece) → are_joined rest ≡ true → are_joined (put_byte byte rest) ≡ true
joined_put byte [] is = refl
joined_put byte (pieces.Literal [] ∷ rest) is = cc
joined_put byte (pieces.Literal (first ∷ bytes) ∷ rest) is = is
joined_put byte (pieces.Number kind ∷ rest) is = is
joined_put byte (pieces.Character ∷ rest) is = is
joined_put byte (pieces.Str ∷ rest) is = is

joined_before : (text : List ℕ) (piece : Piece) (rest : List Piece) → Specifies text piece → are_joined rest ≡ true → are_joined (piece ∷ rest) ≡ true
joined_before text piece rest (Number modifier specifier) is = is
joined_before text piece rest Character is = is
joined_before text piece rest Str is = is

pub spelled_joined : (format : List ℕ) (found : List Piece) → Spells format found → are_joined found ≡ true
spelled_joined format found Nothing = refl
spelled_joined format found (Printed {byte = byte} {rest = rest} prints spells) = joined_put byte rest (spelled_joined _ rest spells)
spelled_joined format found (Specified {text = text} {piece = piece} {rest = rest} specifies spells) = joined_before text piece rest specifies (spelled_joined _ rest spells)
