-- What an instruction or an item is made of: phrases, each a type, an operand, a name or a word. A phrase is one node,
-- or several from the one that opens it to the one that closes it. Signs and words that only part others are left out.
use Rattle.std.specs.Prelude.{ℕ, zero, suc, ◌+◌, ◌-◌, Bool, true, false, ◌||◌, List, [], ◌∷◌, drop, if◌then◌else◌}
use Rattle.ir_items.specs.Item.{before_last}
use Rattle.ir_read.specs.declared.grammar.Rule.{Rule}
use Rattle.ir_read.specs.declared.grammar.Rule.TheVariants as r
use Rattle.ir_read.specs.declared.terminal.Terminal.{Terminal}
use Rattle.ir_read.specs.declared.terminal.Terminal.TheVariants as t
use Rattle.ir_read.specs.Node.{Told}

-- `[`, `{` or `<`
abbrev pub is_bracket : Terminal → Bool
is_bracket t.LeftBracket = true
is_bracket t.LeftBrace = true
is_bracket t.Less = true
is_bracket _ = false

-- a constant expression's word
abbrev pub is_expression : Terminal → Bool
is_expression t.GetElementPtr = true
is_expression t.IntToPtr = true
is_expression _ = false

abbrev pub is_left_paren : Terminal → Bool
is_left_paren t.LeftParen = true
is_left_paren _ = false

-- A type, a constant expression, or the types that a call writes before its callee. A constant expression is opened by its
-- word. The brackets of a list of initial values are phrases of their own, so that a walk over them needs no way back.
unfoldable pub opens : Rule → Terminal → Bool
opens r.Type terminal = is_bracket terminal
opens r.Aggregate terminal = is_bracket terminal
opens r.Initializer terminal = is_expression terminal
opens r.Operand terminal = is_expression terminal
opens r.Callee terminal = is_left_paren terminal
opens _ terminal = false

-- behind the `<` of a packed type its `{` opens too; behind the one of a list of initial values nothing is open
unfoldable pub opens_within : ℕ → Rule → Bool
opens_within (suc depth) r.PackedBrace = true
opens_within _ _ = false

-- within a phrase a closing bracket closes what was opened last
unfoldable pub closes : Terminal → Bool
closes t.RightParen = true
closes t.RightBracket = true
closes t.RightBrace = true
closes t.Greater = true
closes _ = false

-- what only parts others: signs and words of one meaning, and brackets round all that follows
unfoldable pub parts_others : Rule → Bool
parts_others r.Equals = true
parts_others r.OpenConstant = true
parts_others r.KeyX = true
parts_others r.KeyTo = true
parts_others r.KeyLabel = true
parts_others r.Edge = true
parts_others r.CloseEdge = true
parts_others r.Branch = true
parts_others r.OpenCases = true
parts_others r.Cases = true
parts_others r.OpenArguments = true
parts_others r.Arguments = true
parts_others r.MoreArguments = true
parts_others _ = false

abbrev pub is_mark : Told → Bool
is_mark node = parts_others node.rule

-- how many phrases are open behind the node, where so many are before it
unfoldable pub depth_behind : ℕ → Told → ℕ
depth_behind depth node =
    if is_mark node then depth
    else if opens node.rule node.terminal || opens_within depth node.rule then depth + 1
    else if closes node.terminal then depth - 1
    else depth

-- what is left of the open phrase, and the phrases behind it
pub record Phrased : Type 0 where
  pub rest : List Told
  pub phrases : List (List Told)

abbrev pub phrased_by : ℕ → Bool → Told → Phrased → Phrased
phrased_by zero true node behind = record { rest = []; phrases = behind.phrases }
phrased_by zero false node behind = record { rest = []; phrases = (node ∷ behind.rest) ∷ behind.phrases }
phrased_by (suc depth) mark node behind = record { rest = node ∷ behind.rest; phrases = behind.phrases }

abbrev pub phrased : ℕ → List Told → Phrased
phrased depth [] = record { rest = []; phrases = [] }
phrased depth (node ∷ nodes) = phrased_by depth (is_mark node) node (phrased (depth_behind depth node) nodes)

-- the phrases of a list of nodes
abbrev pub phrases_of : List Told → List (List Told)
phrases_of nodes = (phrased zero nodes).phrases

-- how many nodes are left of what is open
abbrev pub open_len : ℕ → List Told → ℕ
open_len depth [] = zero
open_len zero (node ∷ nodes) = zero
open_len (suc depth) (node ∷ nodes) = suc (open_len (depth_behind (suc depth) node) nodes)

-- what a phrase of several nodes has within its first and its last one. The phrases of a constant expression's inside
-- are those of the instruction of its word.
abbrev pub inside_of : List Told → List Told
inside_of phrase = before_last (drop 1 phrase)
