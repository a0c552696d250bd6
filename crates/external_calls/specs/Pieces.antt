-- The pieces of a format, as they are read from its front.
use Rattle.std.specs.Prelude.{ℕ, List, [], ◌∷◌}
use Rattle.ir_types.specs.declared.external.Piece.{Piece}
use Rattle.ir_types.specs.declared.external.Piece.TheVariants as pieces

-- no literal is empty
abbrev pub literal_of : List ℕ → List Piece
literal_of [] = []
literal_of (byte ∷ bytes) = pieces.Literal (byte ∷ bytes) ∷ []
