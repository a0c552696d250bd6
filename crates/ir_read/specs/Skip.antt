-- What stands between the tokens of an item without a meaning: attributes, flags and metadata.
use Rattle.std.specs.Prelude.{Bool, true, false, Option, Some, None}
use Rattle.ir_read.specs.declared.skip.Mode.{Mode}
use Rattle.ir_read.specs.declared.skip.Mode.TheVariants as m
use Rattle.ir_read.specs.declared.terminal.Terminal.{Terminal}
use Rattle.ir_read.specs.declared.terminal.Terminal.TheVariants as t

-- the first token of a skipped form, and what is behind it: a word or `#N` is a whole one, and so are `align N`,
-- `dereferenceable(N)`, `captures(none)` and `!name !N`
unfoldable pub skip_of : Terminal → Option Mode
skip_of t.Skipped = Some m.Free
skip_of t.AttributeGroup = Some m.Free
skip_of t.Align = Some m.AlignNumber
skip_of t.Dereferenceable = Some m.DereferenceableOpen
skip_of t.Captures = Some m.CapturesOpen
skip_of t.MetadataName = Some m.MetadataNumber
skip_of _ = None

-- a further token of a skipped form, and what is behind it
unfoldable pub skip_row : Mode → Terminal → Option Mode
skip_row m.AlignNumber t.Natural = Some m.Free
skip_row m.DereferenceableOpen t.LeftParen = Some m.DereferenceableNumber
skip_row m.DereferenceableNumber t.Natural = Some m.FormClose
skip_row m.CapturesOpen t.LeftParen = Some m.CapturesNone
skip_row m.CapturesNone t.KeyNone = Some m.FormClose
skip_row m.FormClose t.RightParen = Some m.Free
skip_row m.MetadataNumber t.MetadataNumber = Some m.Free
skip_row _ _ = None

-- a comma before these is skipped with them
unfoldable pub drops_comma : Terminal → Bool
drops_comma t.Align = true
drops_comma t.MetadataName = true
drops_comma _ = false

unfoldable pub is_comma : Terminal → Bool
is_comma t.Comma = true
is_comma _ = false
