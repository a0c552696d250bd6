-- What instructions give.
use Rattle.std.specs.Prelude.{List, [], ◌∷◌, Option, Some, None}
use Rattle.ir_types.specs.declared.word.Kind.{Kind}
use Rattle.ir_types.specs.declared.word.Kind.TheVariants.{Ptr}
use Rattle.ir_items.specs.Phrase.{phrases_of}
use Rattle.ir_items.specs.Statement.{Statement}
use Rattle.ir_read.specs.declared.terminal.Terminal.{Terminal}
use Rattle.ir_read.specs.declared.terminal.Terminal.TheVariants as t
use Rattle.ir_read.specs.Node.{Told}
use Rattle.instruction_check.specs.Literals.{kind_of}
use Rattle.instruction_check.specs.Phrases.{first, third, kind_in}
use Rattle.instruction_check.specs.Values.{condition}

abbrev pub third_kind : List (List Told) → Kind
third_kind phrases = kind_in (third phrases)

abbrev pub given_by : Terminal → Told → Option Kind
given_by t.Void node = None
given_by _ node = Some (kind_of node)

-- the type of a call's result
abbrev pub call_result : List Told → Option Kind
call_result [] = None
call_result (node ∷ rest) = given_by node.terminal node

-- what begins with no word of an instruction gives nothing; that it is none is a fault of the instruction itself
abbrev pub result_by : Terminal → List (List Told) → Option Kind
result_by t.Binary phrases = Some (kind_in (first phrases))
result_by t.Phi phrases = Some (kind_in (first phrases))
result_by t.Load phrases = Some (kind_in (first phrases))
result_by t.Icmp phrases = Some condition
result_by t.Cast phrases = Some (third_kind phrases)
result_by t.IntToPtr phrases = Some (third_kind phrases)
result_by t.Select phrases = Some (third_kind phrases)
result_by t.Alloca phrases = Some Ptr
result_by t.GetElementPtr phrases = Some Ptr
result_by t.Call phrases = call_result (first phrases)
result_by t.Store phrases = None
result_by t.Br phrases = None
result_by t.Switch phrases = None
result_by t.Ret phrases = None
result_by t.Unreachable phrases = None
result_by t.Label phrases = None
result_by _ phrases = None

-- the kind of what an instruction gives, as it is written; none where it gives nothing, and of a label
abbrev pub result_of : Statement → Option Kind
result_of statement = result_by statement.operation.terminal (phrases_of statement.operands)
