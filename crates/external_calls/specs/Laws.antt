-- What it means that bytes are a format of `printf`, in the words of fprintf of the C standard.
use Rattle.std.specs.Prelude.{ℕ, List, [], ◌∷◌, ◌++◌, ◌≡◌, Bool, true, false, not, ◌&&◌, ◌==◌, codes}
use Rattle.ir_types.specs.declared.external.ItemKind.{ItemKind}
use Rattle.ir_types.specs.declared.external.ItemKind.TheVariants as items
use Rattle.ir_types.specs.declared.external.Piece.{Piece}
use Rattle.ir_types.specs.declared.external.Piece.TheVariants as pieces
use Rattle.external_calls.specs.declared.prototype.Parameter.{Parameter}
use Rattle.external_calls.specs.declared.prototype.Parameter.TheVariants as p
use Rattle.external_calls.specs.Format.{put_byte}

-- ---- calls

-- an operand of the call's instruction
abbrev pub is_value : Parameter → Bool
is_value (p.Value kind) = true
is_value _ = false

-- ---- formats

pub data Modifier : Type 0 where
  Plain : Modifier
  L : Modifier
  LL : Modifier
  Z : Modifier

pub data Specifier : Type 0 where
  D : Specifier
  I : Specifier
  U : Specifier
  X : Specifier

abbrev pub modifier_bytes : Modifier → List ℕ
modifier_bytes Plain = []
modifier_bytes L = codes "l"
modifier_bytes LL = codes "ll"
modifier_bytes Z = codes "z"

abbrev pub specifier_bytes : Specifier → List ℕ
specifier_bytes D = codes "d"
specifier_bytes I = codes "i"
specifier_bytes U = codes "u"
specifier_bytes X = codes "x"

-- an `int` has 32 bits, and a `long`, a `long long` and a `size_t` have 64
abbrev pub item_kind : Modifier → Specifier → ItemKind
item_kind Plain D = items.D32
item_kind Plain I = items.D32
item_kind Plain U = items.U32
item_kind Plain X = items.X32
item_kind _ D = items.D64
item_kind _ I = items.D64
item_kind _ U = items.U64
item_kind _ X = items.X64

-- a conversion specification that takes an argument, and what it means
pub data Specifies : List ℕ → Piece → Type 0 where
  Number : (modifier : Modifier) (specifier : Specifier) →
      Specifies (codes "%" ++ modifier_bytes modifier ++ specifier_bytes specifier) (pieces.Number (item_kind modifier specifier))
  Character : Specifies (codes "%c") pieces.Character
  Str : Specifies (codes "%s") pieces.Str

-- neither the zero byte nor '%'
abbrev pub is_ordinary : ℕ → Bool
is_ordinary byte = not (byte == 0) && not (byte == 37)

-- what is printed as a byte
pub data Prints : List ℕ → ℕ → Type 0 where
  Itself : (byte : ℕ) → is_ordinary byte ≡ true → Prints (byte ∷ []) byte
  Percent : Prints (codes "%%") 37

-- a format, without the zero byte behind it, and its pieces
pub data Spells : List ℕ → List Piece → Type 0 where
  Nothing : Spells [] []
  Printed : {text format : List ℕ} {byte : ℕ} {rest : List Piece} →
      Prints text byte → Spells format rest → Spells (text ++ format) (put_byte byte rest)
  Specified : {text format : List ℕ} {piece : Piece} {rest : List Piece} →
      Specifies text piece → Spells format rest → Spells (text ++ format) (piece ∷ rest)

-- the bytes begin with a format, with the zero byte behind it
pub record BeginsWith (bytes : List ℕ) (found : List Piece) : Type 0 where
  pub format : List ℕ
  pub rest : List ℕ
  pub bytes-are : bytes ≡ format ++ 0 ∷ rest
  pub spells : Spells format found

abbrev pub is_literal : List Piece → Bool
is_literal (pieces.Literal bytes ∷ rest) = true
is_literal _ = false

-- no literal is empty, and none follows another
abbrev pub are_joined : List Piece → Bool
are_joined [] = true
are_joined (pieces.Literal [] ∷ rest) = false
are_joined (pieces.Literal (byte ∷ bytes) ∷ rest) = not (is_literal rest) && are_joined rest
are_joined (piece ∷ rest) = are_joined rest
