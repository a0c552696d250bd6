-- The labels and instructions of a body.
use Rattle.std.specs.Prelude.{ℕ, Bool, true, false, List, [], ◌∷◌, Option, Some, None}
use Rattle.ir_read.specs.declared.terminal.Terminal.{Terminal}
use Rattle.ir_read.specs.declared.terminal.Terminal.TheVariants as t
use Rattle.ir_read.specs.Node.{Told}
use Rattle.ir_items.specs.declared.segment.Cut.TheVariants as cuts
use Rattle.ir_items.specs.Segment.{Segment, is_equals, segments_of}

-- a label, or an instruction with its operands. A label is an operation without operands.
pub record Statement : Type 0 where
  -- that of its first node
  pub line : ℕ
  pub result : Option Told
  pub operation : Told
  pub operands : List Told

abbrev pub unnamed : Told → List Told → Statement
unnamed first rest = record { line = first.line; result = None; operation = first; operands = rest }

abbrev pub named_if : Bool → Told → Told → Told → List Told → Statement
named_if true first equals operation operands =
    record { line = first.line; result = Some first; operation = operation; operands = operands }
named_if false first equals operation operands = unnamed first (equals ∷ operation ∷ operands)

-- `%name = OPERATION ..`, or `OPERATION ..`
abbrev pub statement_at : Told → List Told → Statement
statement_at first (equals ∷ operation ∷ operands) = named_if (is_equals equals.rule) first equals operation operands
statement_at first rest = unnamed first rest

abbrev pub statement_of : Segment → Statement
statement_of segment = statement_at segment.first segment.rest

abbrev pub statements_in : List Segment → List Statement
statements_in [] = []
statements_in (segment ∷ segments) = statement_of segment ∷ statements_in segments

-- the statements of a body
abbrev pub statements_of : List Told → List Statement
statements_of body = statements_in (segments_of cuts.Statements body)

abbrev pub is_label_class : Terminal → Bool
is_label_class t.Label = true
is_label_class _ = false

abbrev pub is_label : Statement → Bool
is_label statement = is_label_class statement.operation.terminal
