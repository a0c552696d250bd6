-- The types that nodes spell.
use Rattle.std.specs.Prelude.{◌≡◌, ℕ, zero, suc, ◌+◌, ◌-◌, ◌<◌, Bool, true, false, List, [], ◌∷◌, ◌++◌, length, take, drop, Option, Some, None, ◌==◌, if◌then◌else◌, codes, bytes_eq}
use Rattle.ir_read.specs.declared.grammar.Rule.{Rule}
use Rattle.ir_read.specs.declared.raw_type.TypeForm.{TypeForm}
use Rattle.ir_read.specs.declared.raw_type.TypeForm.TheVariants as forms
use Rattle.ir_read.specs.declared.terminal.Terminal.{Terminal}
use Rattle.ir_read.specs.declared.terminal.Terminal.TheVariants as t
use Rattle.ir_read.specs.Laws.{Parses}
use Rattle.ir_read.specs.Name.{name_of}
use Rattle.ir_read.specs.Node.{Lexeme, Told}
use Rattle.ir_read.specs.Terminal.{number_of}

mutual
  -- a type: an integer of so many bits, an array with its length, a struct with its name, or one with its fields that is
  -- packed or isn't
  pub data Shape : Type 0 where
    Int : ℕ → Shape
    Ptr : Shape
    Void : Shape
    Array : ℕ → Shape → Shape
    Named : List ℕ → Shape
    Struct : Bool → Fields → Shape

  pub data Fields : Type 0 where
    Nothing : Fields
    Field : Shape → Fields → Fields

-- ---- single nodes

-- how many bits an integer of the type has
abbrev pub bits_of : List ℕ → ℕ
bits_of text =
    if bytes_eq text (codes "i1") then 1
    else if bytes_eq text (codes "i8") then 8
    else if bytes_eq text (codes "i16") then 16
    else if bytes_eq text (codes "i32") then 32
    else 64

abbrev pub or_zero : Option ℕ → ℕ
or_zero (Some number) = number
or_zero None = 0

-- how many elements an array has
abbrev pub count_of : List ℕ → ℕ
count_of text = or_zero (number_of text)

-- ---- spelling, a form each

mutual
  -- the type is spelled by the nodes
  pub data Spells : Shape → List Told → Type 0 where
    Integer : {node : Told} → node.terminal ≡ t.Int → Spells (Int (bits_of node.text)) (node ∷ [])
    Pointer : {node : Told} → node.terminal ≡ t.Ptr → Spells Ptr (node ∷ [])
    Nowhere : {node : Told} → node.terminal ≡ t.Void → Spells Void (node ∷ [])
    Name : {node : Told} → node.terminal ≡ t.Local → Spells (Named (name_of t.Local node.text)) (node ∷ [])
    Row : {left count key : Told} (right : Told) {shape : Shape} {nodes : List Told} →
        left.terminal ≡ t.LeftBracket → count.terminal ≡ t.Natural → key.terminal ≡ t.KeyX → right.terminal ≡ t.RightBracket →
        Spells shape nodes → Spells (Array (count_of count.text) shape) (left ∷ count ∷ key ∷ nodes ++ right ∷ [])
    Plain : {left : Told} (right : Told) {fields : Fields} {nodes : List Told} →
        left.terminal ≡ t.LeftBrace → right.terminal ≡ t.RightBrace →
        AreSpelled fields nodes → Spells (Struct false fields) (left ∷ nodes ++ right ∷ [])
    Packed : {less left : Told} (right greater : Told) {fields : Fields} {nodes : List Told} →
        less.terminal ≡ t.Less → left.terminal ≡ t.LeftBrace → right.terminal ≡ t.RightBrace → greater.terminal ≡ t.Greater →
        AreSpelled fields nodes → Spells (Struct true fields) (less ∷ left ∷ nodes ++ right ∷ greater ∷ [])

  -- the fields are spelled by the nodes, one after another
  pub data AreSpelled : Fields → List Told → Type 0 where
    Ends : AreSpelled Nothing []
    Goes : {shape : Shape} {fields : Fields} {front rest : List Told} →
        Spells shape front → AreSpelled fields rest → AreSpelled (Field shape fields) (front ++ rest)

-- a type stands in front of the nodes, and what else is wanted is there behind it
pub record BeginsWithType (wants : List Rule) (tokens : List Lexeme) (nodes : List Told) : Type 0 where
  pub shape : Shape
  pub front : List Told
  pub rest : List Told
  pub behind : List Lexeme
  pub spelled : Spells shape front
  pub parsed : Parses wants behind rest
  pub whole : nodes ≡ front ++ rest
  pub shorter : length behind < length tokens

-- what of a node a type rests on
abbrev pub meaning : Told → Terminal × List ℕ
meaning node = (node.terminal, node.text)

-- ---- the type in front of nodes, whatever is behind it

-- what nodes spell: the types up to the end of the struct in which the nodes begin, and behind that the same for the
-- struct around it, and so on
pub record Spelled : Type 0 where
  pub here : Fields
  pub around : List Fields

abbrev pub with_type : Shape → Spelled → Spelled
with_type shape spelled = record { here = Field shape spelled.here; around = spelled.around }

abbrev pub as_array : ℕ → Fields → Fields
as_array count Nothing = Nothing
as_array count (Field shape fields) = Field (Array count shape) fields

abbrev pub with_struct : Fields → List Fields → Spelled
with_struct fields [] = record { here = Field (Struct false fields) Nothing; around = [] }
with_struct fields (behind ∷ around) = record { here = Field (Struct false fields) behind; around = around }

abbrev pub as_packed : Fields → Fields
as_packed (Field (Struct false fields) others) = Field (Struct true fields) others
as_packed fields = fields

-- what a node and those behind it spell: brackets, an `x` and a `>` add nothing to the number, the `}` and the `<`
abbrev pub spelled_by : Terminal → List ℕ → Spelled → Spelled
spelled_by t.Int text spelled = with_type (Int (bits_of text)) spelled
spelled_by t.Ptr text spelled = with_type Ptr spelled
spelled_by t.Void text spelled = with_type Void spelled
spelled_by t.Local text spelled = with_type (Named (name_of t.Local text)) spelled
spelled_by t.Natural text spelled = record { here = as_array (count_of text) spelled.here; around = spelled.around }
spelled_by t.RightBrace text spelled = record { here = Nothing; around = spelled.here ∷ spelled.around }
spelled_by t.LeftBrace text spelled = with_struct spelled.here spelled.around
spelled_by t.Less text spelled = record { here = as_packed spelled.here; around = spelled.around }
spelled_by _ text spelled = spelled

abbrev pub spelled : List Told → Spelled
spelled [] = record { here = Nothing; around = [] }
spelled (node ∷ nodes) = spelled_by node.terminal node.text (spelled nodes)

abbrev pub first_of : Fields → Shape
first_of Nothing = Void
first_of (Field shape fields) = shape

-- the type that stands in front of the nodes
abbrev pub shape_of : List Told → Shape
shape_of nodes = first_of (spelled nodes).here

-- the types that the nodes spell one after another
abbrev pub shapes_of : List Told → Fields
shapes_of nodes = (spelled nodes).here

-- ---- where it ends

abbrev pub one_less : ℕ → ℕ
one_less zero = zero
one_less (suc depth) = depth

-- how many brackets are open behind a node
abbrev pub depth_behind : Terminal → ℕ → ℕ
depth_behind t.LeftBracket depth = suc depth
depth_behind t.LeftBrace depth = suc depth
depth_behind t.Less depth = suc depth
depth_behind t.RightBracket depth = one_less depth
depth_behind t.RightBrace depth = one_less depth
depth_behind t.Greater depth = one_less depth
depth_behind _ depth = depth

-- one node, and those behind it where a bracket is open
abbrev pub with_node : ℕ → ℕ → ℕ
with_node zero behind = 1
with_node (suc depth) behind = suc behind

-- how many nodes there are up to the one behind which no bracket is open
abbrev pub length_at : ℕ → List Told → ℕ
length_at depth [] = 0
length_at depth (node ∷ nodes) =
    with_node (depth_behind node.terminal depth) (length_at (depth_behind node.terminal depth) nodes)

-- how many nodes the type in front has
abbrev pub type_length : List Told → ℕ
type_length nodes = length_at 0 nodes

-- the nodes of the type in front, and those behind it
abbrev pub type_in : List Told → List Told
type_in nodes = take (type_length nodes) nodes

abbrev pub behind_type : List Told → List Told
behind_type nodes = drop (type_length nodes) nodes

-- ---- a type's form and parts

abbrev pub count_in : List Told → ℕ
count_in [] = 0
count_in (node ∷ nodes) = count_of node.text

abbrev pub form_by : Terminal → List ℕ → List Told → TypeForm
form_by t.Int text nodes = forms.Int (bits_of text)
form_by t.Ptr text nodes = forms.Ptr
form_by t.Local text nodes = forms.Named
form_by t.LeftBracket text nodes = forms.Array (count_in nodes)
form_by t.LeftBrace text nodes = forms.Struct
form_by t.Less text nodes = forms.Packed
form_by _ text nodes = forms.Void

-- the form that a type's first nodes show
abbrev pub form_of : List Told → TypeForm
form_of [] = forms.Void
form_of (node ∷ nodes) = form_by node.terminal node.text nodes

-- the name of a named struct
abbrev pub struct_name : List Told → List ℕ
struct_name [] = []
struct_name (node ∷ nodes) = name_of node.terminal node.text

abbrev pub without_last : List Told → List Told
without_last nodes = take (length nodes - 1) nodes

-- the nodes of an array's element: behind `[`, the number and the `x`
abbrev pub element_of : List Told → List Told
element_of nodes = without_last (drop 3 nodes)

-- the nodes of the fields of a struct, one after another, and of a packed one
abbrev pub fields_of : List Told → List Told
fields_of nodes = without_last (drop 1 nodes)

abbrev pub packed_fields_of : List Told → List Told
packed_fields_of nodes = without_last (without_last (drop 2 nodes))

-- ---- the same of a shape

abbrev pub form_of_shape : Shape → TypeForm
form_of_shape (Int bits) = forms.Int bits
form_of_shape Ptr = forms.Ptr
form_of_shape Void = forms.Void
form_of_shape (Array count shape) = forms.Array count
form_of_shape (Named name) = forms.Named
form_of_shape (Struct false fields) = forms.Struct
form_of_shape (Struct true fields) = forms.Packed
