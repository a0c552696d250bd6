-- The grammar of modules as a table, after the LLVM Language Reference. Each rule begins with a token: it has rows
-- "with this token it begins, and then these rules are wanted", and maybe one line "at any other token it stands for
-- these rules". What may be left out carries what follows it. Skipped words aren't tokens here.
use Rattle.std.specs.Prelude.{List, [], ◌∷◌, Option, Some, None}
use Rattle.ir_read.specs.declared.terminal.Terminal.{Terminal}
use Rattle.ir_read.specs.declared.terminal.Terminal.TheVariants as t
use Rattle.ir_read.specs.declared.grammar.Rule.{Rule}
use Rattle.ir_read.specs.declared.grammar.Rule.TheVariants as r

-- ---- the rules of one token, which want nothing more

abbrev pub token_row : Rule → Terminal → Option (List Rule)
token_row r.Equals t.Equals = Some []
token_row r.KeyType t.KeyType = Some []
token_row r.GlobalKind t.KeyGlobal = Some []
token_row r.GlobalName t.Global = Some []
token_row r.GlobalName t.OddGlobal = Some []
token_row r.DefinedName t.Global = Some []
token_row r.ParameterType t.Int = Some []
token_row r.ParameterType t.Ptr = Some []
token_row r.OpenBody t.LeftBrace = Some []
token_row r.CloseParen t.RightParen = Some []
token_row r.ArraySize t.Natural = Some []
token_row r.KeyX t.KeyX = Some []
token_row r.CloseArray t.RightBracket = Some []
token_row r.PackedBrace t.LeftBrace = Some []
token_row r.CloseType t.Greater = Some []
token_row r.ValueType t.Int = Some []
token_row r.ValueType t.Ptr = Some []
token_row r.ResultType t.Int = Some []
token_row r.ResultType t.Ptr = Some []
token_row r.ResultType t.Void = Some []
token_row r.Literal t.Natural = Some []
token_row r.Literal t.Negative = Some []
token_row r.Literal t.LiteralWord = Some []
token_row r.Literal t.Bytes = Some []
token_row r.CloseMembers t.Greater = Some []
token_row r.OpenConstant t.LeftParen = Some []
token_row r.KeyPtr t.Ptr = Some []
token_row r.KeyTo t.KeyTo = Some []
token_row r.Predicate t.Predicate = Some []
token_row r.KeyLabel t.KeyLabel = Some []
token_row r.LocalName t.Local = Some []
token_row r.CloseEdge t.RightBracket = Some []
token_row r.CloseWritten t.RightParen = Some []
token_row r.CalleeName t.Global = Some []
token_row r.CalleeName t.OddGlobal = Some []
token_row _ _ = None

-- ---- items of a module

-- `%name = type STRUCT`, `@name = global TYPE INITIALIZER`, `declare TYPE @name(..)`, `define TYPE @name(..) { .. }`
abbrev pub items_row : Terminal → Option (List Rule)
items_row t.End = Some []
items_row t.Local = Some (r.Equals ∷ r.KeyType ∷ r.Aggregate ∷ r.Items ∷ [])
items_row t.Global = Some (r.Equals ∷ r.GlobalKind ∷ r.Type ∷ r.Initializer ∷ r.Items ∷ [])
items_row t.OddGlobal = Some (r.Equals ∷ r.GlobalKind ∷ r.Type ∷ r.Initializer ∷ r.Items ∷ [])
items_row t.KeyDeclare = Some (r.ResultType ∷ r.GlobalName ∷ r.OpenDeclared ∷ r.Items ∷ [])
items_row t.KeyDefine = Some (r.ResultType ∷ r.DefinedName ∷ r.OpenParameters ∷ r.OpenBody ∷ r.Body ∷ r.Items ∷ [])
items_row _ = None

abbrev pub open_declared_row : Terminal → Option (List Rule)
open_declared_row t.LeftParen = Some (r.Declared ∷ [])
open_declared_row _ = None

-- `TYPE, TYPE, ...)`, where each type may have a name behind it
abbrev pub declared_row : Terminal → Option (List Rule)
declared_row t.RightParen = Some []
declared_row t.Ellipsis = Some (r.CloseParen ∷ [])
declared_row _ = None

abbrev pub declared_name_row : Terminal → Option (List Rule)
declared_name_row t.Local = Some (r.MoreDeclared ∷ [])
declared_name_row _ = None

abbrev pub more_declared_row : Terminal → Option (List Rule)
more_declared_row t.RightParen = Some []
more_declared_row t.Comma = Some (r.NextDeclared ∷ [])
more_declared_row _ = None

abbrev pub next_declared_row : Terminal → Option (List Rule)
next_declared_row t.Ellipsis = Some (r.CloseParen ∷ [])
next_declared_row _ = None

abbrev pub open_parameters_row : Terminal → Option (List Rule)
open_parameters_row t.LeftParen = Some (r.Parameters ∷ [])
open_parameters_row _ = None

-- `TYPE %name, TYPE %name)`
abbrev pub parameters_row : Terminal → Option (List Rule)
parameters_row t.RightParen = Some []
parameters_row _ = None

abbrev pub parameter_name_row : Terminal → Option (List Rule)
parameter_name_row t.Local = Some (r.MoreParameters ∷ [])
parameter_name_row _ = None

abbrev pub more_parameters_row : Terminal → Option (List Rule)
more_parameters_row t.RightParen = Some []
more_parameters_row t.Comma = Some (r.ParameterType ∷ r.ParameterName ∷ [])
more_parameters_row _ = None

-- ---- types

-- `i32`, `ptr`, `%name`, `[n x TYPE]`, `{ TYPE, .. }`, `<{ TYPE, .. }>`
abbrev pub type_row : Terminal → Option (List Rule)
type_row t.Int = Some []
type_row t.Ptr = Some []
type_row t.Local = Some []
type_row t.LeftBracket = Some (r.ArraySize ∷ r.KeyX ∷ r.Type ∷ r.CloseArray ∷ [])
type_row t.LeftBrace = Some (r.Fields ∷ [])
type_row t.Less = Some (r.PackedBrace ∷ r.Fields ∷ r.CloseType ∷ [])
type_row _ = None

-- `{ TYPE, .. }` or `<{ TYPE, .. }>`
abbrev pub aggregate_row : Terminal → Option (List Rule)
aggregate_row t.LeftBrace = Some (r.Fields ∷ [])
aggregate_row t.Less = Some (r.PackedBrace ∷ r.Fields ∷ r.CloseType ∷ [])
aggregate_row _ = None

abbrev pub fields_row : Terminal → Option (List Rule)
fields_row t.RightBrace = Some []
fields_row _ = None

abbrev pub more_fields_row : Terminal → Option (List Rule)
more_fields_row t.RightBrace = Some []
more_fields_row t.Comma = Some (r.Type ∷ r.MoreFields ∷ [])
more_fields_row _ = None

-- ---- constants

-- a literal, `@name`, a constant expression, `[ .. ]`, `{ .. }` or `<{ .. }>`
abbrev pub initializer_row : Terminal → Option (List Rule)
initializer_row t.Natural = Some []
initializer_row t.Negative = Some []
initializer_row t.LiteralWord = Some []
initializer_row t.Bytes = Some []
initializer_row t.Global = Some []
initializer_row t.OddGlobal = Some []
initializer_row t.GetElementPtr = Some (r.OpenConstant ∷ r.Type ∷ r.CommaPtr ∷ r.GlobalName ∷ r.Indices ∷ [])
initializer_row t.IntToPtr = Some (r.OpenConstant ∷ r.ValueType ∷ r.Literal ∷ r.KeyTo ∷ r.KeyPtr ∷ r.CloseParen ∷ [])
initializer_row t.LeftBracket = Some (r.Elements ∷ [])
initializer_row t.LeftBrace = Some (r.Members ∷ [])
initializer_row t.Less = Some (r.PackedBrace ∷ r.Members ∷ r.CloseMembers ∷ [])
initializer_row _ = None

-- `TYPE INITIALIZER, ..]`
abbrev pub elements_row : Terminal → Option (List Rule)
elements_row t.RightBracket = Some []
elements_row _ = None

abbrev pub more_elements_row : Terminal → Option (List Rule)
more_elements_row t.RightBracket = Some []
more_elements_row t.Comma = Some (r.Type ∷ r.Initializer ∷ r.MoreElements ∷ [])
more_elements_row _ = None

-- `TYPE INITIALIZER, ..}`
abbrev pub members_row : Terminal → Option (List Rule)
members_row t.RightBrace = Some []
members_row _ = None

abbrev pub more_members_row : Terminal → Option (List Rule)
more_members_row t.RightBrace = Some []
more_members_row t.Comma = Some (r.Type ∷ r.Initializer ∷ r.MoreMembers ∷ [])
more_members_row _ = None

-- a register, a literal, `@name`, `getelementptr (TYPE, ptr @name, ..)` or `inttoptr (TYPE LITERAL to ptr)`
abbrev pub operand_row : Terminal → Option (List Rule)
operand_row t.Local = Some []
operand_row t.Natural = Some []
operand_row t.Negative = Some []
operand_row t.LiteralWord = Some []
operand_row t.Bytes = Some []
operand_row t.Global = Some []
operand_row t.OddGlobal = Some []
operand_row t.GetElementPtr = Some (r.OpenConstant ∷ r.Type ∷ r.CommaPtr ∷ r.GlobalName ∷ r.Indices ∷ [])
operand_row t.IntToPtr = Some (r.OpenConstant ∷ r.ValueType ∷ r.Literal ∷ r.KeyTo ∷ r.KeyPtr ∷ r.CloseParen ∷ [])
operand_row _ = None

abbrev pub comma_ptr_row : Terminal → Option (List Rule)
comma_ptr_row t.Comma = Some (r.KeyPtr ∷ [])
comma_ptr_row _ = None

-- `, TYPE LITERAL ..)`
abbrev pub indices_row : Terminal → Option (List Rule)
indices_row t.RightParen = Some []
indices_row t.Comma = Some (r.ValueType ∷ r.Literal ∷ r.Indices ∷ [])
indices_row _ = None

-- ---- functions' bodies

-- `label:`, `%name = OPERATION`, an instruction without a result, or the end of the body
abbrev pub body_row : Terminal → Option (List Rule)
body_row t.Label = Some (r.Body ∷ [])
body_row t.RightBrace = Some []
body_row t.Local = Some (r.Equals ∷ r.Operation ∷ [])
body_row t.Store = Some (r.ValueType ∷ r.Operand ∷ r.CommaTyped ∷ r.Body ∷ [])
body_row t.Br = Some (r.Branch ∷ [])
body_row t.Switch = Some (r.ValueType ∷ r.Operand ∷ r.CommaLabel ∷ r.OpenCases ∷ [])
body_row t.Ret = Some (r.Returned ∷ [])
body_row t.Unreachable = Some (r.Body ∷ [])
body_row _ = None

-- an instruction that may have a result, with its operands
abbrev pub operation_row : Terminal → Option (List Rule)
operation_row t.Binary = Some (r.ValueType ∷ r.Operand ∷ r.CommaOperand ∷ r.Body ∷ [])
operation_row t.Icmp = Some (r.Predicate ∷ r.ValueType ∷ r.Operand ∷ r.CommaOperand ∷ r.Body ∷ [])
operation_row t.Cast = Some (r.ValueType ∷ r.Operand ∷ r.KeyTo ∷ r.ValueType ∷ r.Body ∷ [])
operation_row t.IntToPtr = Some (r.ValueType ∷ r.Operand ∷ r.KeyTo ∷ r.ValueType ∷ r.Body ∷ [])
operation_row t.Select = Some (r.ValueType ∷ r.Operand ∷ r.CommaTyped ∷ r.CommaTyped ∷ r.Body ∷ [])
operation_row t.Phi = Some (r.ValueType ∷ r.Edge ∷ r.MoreEdges ∷ [])
operation_row t.Alloca = Some (r.Type ∷ r.Count ∷ [])
operation_row t.Load = Some (r.ValueType ∷ r.CommaTyped ∷ r.Body ∷ [])
operation_row t.GetElementPtr = Some (r.Type ∷ r.CommaTyped ∷ r.Steps ∷ [])
operation_row t.Call = Some (r.ResultType ∷ r.Callee ∷ [])
operation_row _ = None

abbrev pub comma_typed_row : Terminal → Option (List Rule)
comma_typed_row t.Comma = Some (r.ValueType ∷ r.Operand ∷ [])
comma_typed_row _ = None

abbrev pub comma_operand_row : Terminal → Option (List Rule)
comma_operand_row t.Comma = Some (r.Operand ∷ [])
comma_operand_row _ = None

abbrev pub comma_label_row : Terminal → Option (List Rule)
comma_label_row t.Comma = Some (r.KeyLabel ∷ r.LocalName ∷ [])
comma_label_row _ = None

-- `[ OPERAND, %block ]`
abbrev pub edge_row : Terminal → Option (List Rule)
edge_row t.LeftBracket = Some (r.Operand ∷ r.CommaBlock ∷ r.CloseEdge ∷ [])
edge_row _ = None

abbrev pub comma_block_row : Terminal → Option (List Rule)
comma_block_row t.Comma = Some (r.LocalName ∷ [])
comma_block_row _ = None

abbrev pub more_edges_row : Terminal → Option (List Rule)
more_edges_row t.Comma = Some (r.Edge ∷ r.MoreEdges ∷ [])
more_edges_row _ = None

-- `, TYPE OPERAND` or nothing, and the rest of the body
abbrev pub count_row : Terminal → Option (List Rule)
count_row t.Comma = Some (r.ValueType ∷ r.Operand ∷ r.Body ∷ [])
count_row _ = None

-- `, TYPE OPERAND` as often as it comes, and the rest of the body
abbrev pub steps_row : Terminal → Option (List Rule)
steps_row t.Comma = Some (r.ValueType ∷ r.Operand ∷ r.Steps ∷ [])
steps_row _ = None

-- `label %block`, or `TYPE OPERAND, label %block, label %block`
abbrev pub branch_row : Terminal → Option (List Rule)
branch_row t.KeyLabel = Some (r.LocalName ∷ r.Body ∷ [])
branch_row _ = None

abbrev pub open_cases_row : Terminal → Option (List Rule)
open_cases_row t.LeftBracket = Some (r.Cases ∷ [])
open_cases_row _ = None

-- `TYPE LITERAL, label %block ..]`
abbrev pub cases_row : Terminal → Option (List Rule)
cases_row t.RightBracket = Some (r.Body ∷ [])
cases_row _ = None

-- `void`, or `TYPE OPERAND`
abbrev pub returned_row : Terminal → Option (List Rule)
returned_row t.Void = Some (r.Body ∷ [])
returned_row _ = None

-- ---- calls

-- `@name(..)`, or `(TYPE, ..) @name(..)`
abbrev pub callee_row : Terminal → Option (List Rule)
callee_row t.LeftParen = Some (r.Written ∷ r.CalleeName ∷ r.OpenArguments ∷ [])
callee_row t.Global = Some (r.OpenArguments ∷ [])
callee_row t.OddGlobal = Some (r.OpenArguments ∷ [])
callee_row _ = None

-- `TYPE, TYPE, ...)`
abbrev pub written_row : Terminal → Option (List Rule)
written_row t.RightParen = Some []
written_row t.Ellipsis = Some (r.CloseWritten ∷ [])
written_row _ = None

abbrev pub more_written_row : Terminal → Option (List Rule)
more_written_row t.RightParen = Some []
more_written_row t.Comma = Some (r.NextWritten ∷ [])
more_written_row _ = None

abbrev pub next_written_row : Terminal → Option (List Rule)
next_written_row t.Ellipsis = Some (r.CloseWritten ∷ [])
next_written_row _ = None

abbrev pub open_arguments_row : Terminal → Option (List Rule)
open_arguments_row t.LeftParen = Some (r.Arguments ∷ [])
open_arguments_row _ = None

-- `TYPE OPERAND, ..)`
abbrev pub arguments_row : Terminal → Option (List Rule)
arguments_row t.RightParen = Some (r.Body ∷ [])
arguments_row _ = None

abbrev pub more_arguments_row : Terminal → Option (List Rule)
more_arguments_row t.RightParen = Some (r.Body ∷ [])
more_arguments_row t.Comma = Some (r.ValueType ∷ r.Operand ∷ r.MoreArguments ∷ [])
more_arguments_row _ = None

-- ---- all rules

-- what a rule stands for at a token with which it does not begin
unfoldable pub otherwise : Rule → Option (List Rule)
otherwise r.Declared = Some (r.ValueType ∷ r.DeclaredName ∷ [])
otherwise r.DeclaredName = Some (r.MoreDeclared ∷ [])
otherwise r.NextDeclared = Some (r.ValueType ∷ r.DeclaredName ∷ [])
otherwise r.Parameters = Some (r.ParameterType ∷ r.ParameterName ∷ [])
otherwise r.ParameterName = Some (r.MoreParameters ∷ [])
otherwise r.Fields = Some (r.Type ∷ r.MoreFields ∷ [])
otherwise r.Elements = Some (r.Type ∷ r.Initializer ∷ r.MoreElements ∷ [])
otherwise r.Members = Some (r.Type ∷ r.Initializer ∷ r.MoreMembers ∷ [])
otherwise r.Body = Some (r.Operation ∷ [])
otherwise r.MoreEdges = Some (r.Body ∷ [])
otherwise r.Count = Some (r.Body ∷ [])
otherwise r.Steps = Some (r.Body ∷ [])
otherwise r.Branch = Some (r.ValueType ∷ r.Operand ∷ r.CommaLabel ∷ r.CommaLabel ∷ r.Body ∷ [])
otherwise r.Cases = Some (r.ValueType ∷ r.Literal ∷ r.CommaLabel ∷ r.Cases ∷ [])
otherwise r.Returned = Some (r.ValueType ∷ r.Operand ∷ r.Body ∷ [])
otherwise r.Written = Some (r.ValueType ∷ r.MoreWritten ∷ [])
otherwise r.NextWritten = Some (r.ValueType ∷ r.MoreWritten ∷ [])
otherwise r.Arguments = Some (r.ValueType ∷ r.Operand ∷ r.MoreArguments ∷ [])
otherwise _ = None

-- what follows the token with which a rule begins
unfoldable pub row : Rule → Terminal → Option (List Rule)
row r.Items terminal = items_row terminal
row r.OpenDeclared terminal = open_declared_row terminal
row r.Declared terminal = declared_row terminal
row r.DeclaredName terminal = declared_name_row terminal
row r.MoreDeclared terminal = more_declared_row terminal
row r.NextDeclared terminal = next_declared_row terminal
row r.OpenParameters terminal = open_parameters_row terminal
row r.Parameters terminal = parameters_row terminal
row r.ParameterName terminal = parameter_name_row terminal
row r.MoreParameters terminal = more_parameters_row terminal
row r.Type terminal = type_row terminal
row r.Aggregate terminal = aggregate_row terminal
row r.Fields terminal = fields_row terminal
row r.MoreFields terminal = more_fields_row terminal
row r.Initializer terminal = initializer_row terminal
row r.Elements terminal = elements_row terminal
row r.MoreElements terminal = more_elements_row terminal
row r.Members terminal = members_row terminal
row r.MoreMembers terminal = more_members_row terminal
row r.Operand terminal = operand_row terminal
row r.CommaPtr terminal = comma_ptr_row terminal
row r.Indices terminal = indices_row terminal
row r.Body terminal = body_row terminal
row r.Operation terminal = operation_row terminal
row r.CommaTyped terminal = comma_typed_row terminal
row r.CommaOperand terminal = comma_operand_row terminal
row r.CommaLabel terminal = comma_label_row terminal
row r.Edge terminal = edge_row terminal
row r.CommaBlock terminal = comma_block_row terminal
row r.MoreEdges terminal = more_edges_row terminal
row r.Count terminal = count_row terminal
row r.Steps terminal = steps_row terminal
row r.Branch terminal = branch_row terminal
row r.OpenCases terminal = open_cases_row terminal
row r.Cases terminal = cases_row terminal
row r.Returned terminal = returned_row terminal
row r.Callee terminal = callee_row terminal
row r.Written terminal = written_row terminal
row r.MoreWritten terminal = more_written_row terminal
row r.NextWritten terminal = next_written_row terminal
row r.OpenArguments terminal = open_arguments_row terminal
row r.Arguments terminal = arguments_row terminal
row r.MoreArguments terminal = more_arguments_row terminal
row rule terminal = token_row rule terminal
