-- Lists of nodes, cut before the nodes with which something begins.
use Rattle.std.specs.Prelude.{ℕ, zero, suc, Bool, true, false, not, ◌&&◌, ◌||◌, List, [], ◌∷◌, if◌then◌else◌}
use Rattle.ir_read.specs.declared.grammar.Rule.{Rule}
use Rattle.ir_read.specs.declared.grammar.Rule.TheVariants as r
use Rattle.ir_read.specs.Node.{Told}
use Rattle.ir_items.specs.declared.segment.Cut.{Cut}
use Rattle.ir_items.specs.declared.segment.Cut.TheVariants as cuts

abbrev pub is_items : Rule → Bool
is_items r.Items = true
is_items _ = false

abbrev pub is_equals : Rule → Bool
is_equals r.Equals = true
is_equals _ = false

abbrev pub is_body : Rule → Bool
is_body r.Body = true
is_body _ = false

abbrev pub is_operation : Rule → Bool
is_operation r.Operation = true
is_operation _ = false

-- the type of a parameter, of a declared or of a defined function
abbrev pub is_parameter : Rule → Bool
is_parameter r.ValueType = true
is_parameter r.ParameterType = true
is_parameter _ = false

-- what begins with the node that the rule took, behind one that the other rule took. An instruction begins with its
-- `%name =`, and else with its own word.
unfoldable pub begins : Cut → Rule → Rule → Bool
begins cuts.Items previous rule = is_items rule
begins cuts.Parameters previous rule = is_parameter rule
begins cuts.Statements previous rule = is_body rule || (is_operation rule && not (is_equals previous))

-- the node with which something begins, and those behind it
pub record Segment : Type 0 where
  pub first : Told
  pub rest : List Told

-- what is left of the segment that a node behind another rule's belongs to, and the segments behind that
pub record Split : Type 0 where
  pub rest : List Told
  pub behind : List Segment

abbrev pub split_by : Bool → Told → Split → Split
split_by true node split = record { rest = []; behind = record { first = node; rest = split.rest } ∷ split.behind }
split_by false node split = record { rest = node ∷ split.rest; behind = split.behind }

abbrev pub split_behind : Cut → Rule → List Told → Split
split_behind cut previous [] = record { rest = []; behind = [] }
split_behind cut previous (node ∷ nodes) = split_by (begins cut previous node.rule) node (split_behind cut node.rule nodes)

-- The segments of a list of nodes: it is cut before each node with which something begins. The first node begins the
-- first segment.
abbrev pub segments_of : Cut → List Told → List Segment
segments_of cut [] = []
segments_of cut (node ∷ nodes) =
    let split = split_behind cut node.rule nodes in
    record { first = node; rest = split.rest } ∷ split.behind

-- how many nodes lie before the next cut
abbrev pub rest_len : Cut → Rule → List Told → ℕ
rest_len cut previous [] = zero
rest_len cut previous (node ∷ nodes) = if begins cut previous node.rule then zero else suc (rest_len cut node.rule nodes)
