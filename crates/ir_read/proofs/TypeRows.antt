-- What the grammar takes as a type spells one.
use Rattle.std.proofs.Common.{◌≡◌, ℕ, zero, suc, ◌+◌, ◌<◌, ◌≤◌, Bool, true, false, List, [], ◌∷◌, ◌++◌, length, Option, Some, None, refl, ap, ◌∙◌, sym, subst, arith, append_assoc}
use Rattle.ir_read.specs.declared.grammar.Rule.{Rule}
use Rattle.ir_read.specs.declared.grammar.Rule.TheVariants as r
use Rattle.ir_read.specs.declared.terminal.Terminal.{Terminal}
use Rattle.ir_read.specs.declared.terminal.Terminal.TheVariants as t
use Rattle.ir_read.specs.Grammar.{otherwise, row}
use Rattle.ir_read.specs.Laws.{Parses, Takes, Stands}
use Rattle.ir_read.specs.Node.{Lexeme, Told, is_kept, node, told}
use Rattle.ir_read.specs.Shape.{Shape, Array, Struct, Fields, Nothing, Field, Spells, Integer, Pointer, Nowhere, Name, Row, Plain, Packed, AreSpelled, Ends, Goes, BeginsWithType, Int, Ptr, Void, Named, bits_of, count_of}
use Rattle.ir_read.specs.Name.{name_of}
use Rattle.ir_read.proofs.Equations.{some_is}

-- ---- a rule that stands for no others took the first token

pub record Taken (rule : Rule) (wants : List Rule) (tokens : List Lexeme) (nodes : List Told) : Type 0 where
  pub token : Lexeme
  pub more : List Rule
  pub behind : List Lexeme
  pub rest : List Told
  pub is : row rule token.terminal ≡ Some more
  pub parsed : Parses (more ++ wants) behind rest
  pub tokens_are : tokens ≡ token ∷ behind
  pub nodes_are : nodes ≡ told rule token ++ rest

pub taken : (rule : Rule) (wants : List Rule) (tokens : List Lexeme) (nodes : List Told) → otherwise rule ≡ None →
    Parses (rule ∷ wants) tokens nodes → Taken rule wants tokens nodes
taken rule wants _ _ none (Takes {more = more} {token = token} {tokens = tokens} {nodes = nodes} is parsed) = record {
  token = token;
  more = more;
  behind = tokens;
  rest = nodes;
  is = is;
  parsed = parsed;
  tokens_are = refl;
  nodes_are = refl;
}
taken rule wants _ _ none (Stands none_is other parsed) = cc

-- it is a token of the class, behind which nothing more of the rule is wanted
pub record One (rule : Rule) (terminal : Terminal) (wants : List Rule) (tokens : List Lexeme) (nodes : List Told) : Type 0 where
  pub token : Lexeme
  pub behind : List Lexeme
  pub rest : List Told
  pub is : token.terminal ≡ terminal
  pub parsed : Parses wants behind rest
  pub tokens_are : tokens ≡ token ∷ behind
  pub nodes_are : nodes ≡ node rule token ∷ rest

kept : (rule : Rule) (token : Lexeme) (terminal : Terminal) → token.terminal ≡ terminal → is_kept terminal ≡ true →
    told rule token ≡ node rule token ∷ []
unfolding told
kept rule token terminal is kept_is = rw (is, kept_is) refl

abbrev IsOnly : Rule → Terminal → Type 0
IsOnly rule terminal = (class : Terminal) (more : List Rule) → row rule class ≡ Some more → (class ≡ terminal) × (more ≡ [])

size_only : IsOnly r.ArraySize t.Natural
unfolding row
size_only t.Natural more is = (refl, sym (some_is is))
size_only _ more is = cc

key_only : IsOnly r.KeyX t.KeyX
unfolding row
key_only t.KeyX more is = (refl, sym (some_is is))
key_only _ more is = cc

close_only : IsOnly r.CloseArray t.RightBracket
unfolding row
close_only t.RightBracket more is = (refl, sym (some_is is))
close_only _ more is = cc

brace_only : IsOnly r.PackedBrace t.LeftBrace
unfolding row
brace_only t.LeftBrace more is = (refl, sym (some_is is))
brace_only _ more is = cc

greater_only : IsOnly r.CloseType t.Greater
unfolding row
greater_only t.Greater more is = (refl, sym (some_is is))
greater_only _ more is = cc

one : (rule : Rule) (terminal : Terminal) (wants : List Rule) (tokens : List Lexeme) (nodes : List Told) → IsOnly rule terminal →
    is_kept terminal ≡ true → otherwise rule ≡ None → Parses (rule ∷ wants) tokens nodes → One rule terminal wants tokens nodes
one rule terminal wants tokens nodes only kept_is none parsed =
    let first = taken rule wants tokens nodes none parsed in
    let is = only first.token.terminal first.more first.is in
    record {
      token = first.token;
      behind = first.behind;
      rest = first.rest;
      is = is.0;
      parsed = subst (λ more. Parses (more ++ wants) first.behind first.rest) is.1 first.parsed;
      tokens_are = first.tokens_are;
      nodes_are = first.nodes_are ∙ ap (λ front. front ++ first.rest) (kept rule first.token terminal is.0 kept_is);
    }

-- ---- fields

pub record EndsFields (wants : List Rule) (tokens : List Lexeme) (nodes : List Told) : Type 0 where
  pub fields : Fields
  pub front : List Told
  pub right : Told
  pub rest : List Told
  pub behind : List Lexeme
  pub right_is : right.terminal ≡ t.RightBrace
  pub spelled : AreSpelled fields front
  pub parsed : Parses wants behind rest
  pub whole : nodes ≡ front ++ right ∷ rest
  pub shorter : length behind < length tokens

-- types and fields of at most so many tokens are found
abbrev Finds : ℕ → Type 0
Finds most = (wants : List Rule) (tokens : List Lexeme) (nodes : List Told) → length tokens ≤ most →
    Parses (r.Type ∷ wants) tokens nodes → BeginsWithType wants tokens nodes

abbrev FindsFields : Rule → ℕ → Type 0
FindsFields rule most = (wants : List Rule) (tokens : List Lexeme) (nodes : List Told) → length tokens ≤ most →
    Parses (rule ∷ wants) tokens nodes → EndsFields wants tokens nodes

-- a field, and those behind it
then_more : (most fuel : ℕ) → Finds most → FindsFields r.MoreFields fuel → (wants : List Rule) (tokens : List Lexeme) (nodes : List Told) →
    length tokens ≤ most → length tokens ≤ suc fuel → Parses (r.Type ∷ r.MoreFields ∷ wants) tokens nodes → EndsFields wants tokens nodes
then_more most fuel finds finds_more wants tokens nodes short low parsed =
    let first = finds (r.MoreFields ∷ wants) tokens nodes short parsed in
    let more = finds_more wants first.behind first.rest (omega (arith, first.shorter, low)) first.parsed in
    record {
      fields = Field first.shape more.fields;
      front = first.front ++ more.front;
      right = more.right;
      rest = more.rest;
      behind = more.behind;
      right_is = more.right_is;
      spelled = Goes first.spelled more.spelled;
      parsed = more.parsed;
      whole = first.whole ∙ ap (λ rest. first.front ++ rest) more.whole ∙ sym (append_assoc first.front more.front (more.right ∷ more.rest));
      shorter = omega (arith, first.shorter, more.shorter);
    }

-- the `}`
no_more : (rule : Rule) (wants more : List Rule) (token : Lexeme) (behind : List Lexeme) (rest : List Told) →
    token.terminal ≡ t.RightBrace → more ≡ [] → Parses (more ++ wants) behind rest →
    EndsFields wants (token ∷ behind) (told rule token ++ rest)
unfolding is_kept
no_more rule wants more token behind rest is more_is parsed = record {
  fields = Nothing;
  front = [];
  right = node rule token;
  rest = rest;
  behind = behind;
  right_is = is;
  spelled = Ends;
  parsed = subst (λ all. Parses (all ++ wants) behind rest) more_is parsed;
  whole = ap (λ front. front ++ rest) (kept rule token t.RightBrace is refl);
  shorter = omega arith;
}

more_by : (most fuel : ℕ) → Finds most → FindsFields r.MoreFields fuel → (class : Terminal) (wants more : List Rule) (token : Lexeme)
    (behind : List Lexeme) (rest : List Told) → length behind ≤ most → length behind ≤ fuel → token.terminal ≡ class →
    row r.MoreFields class ≡ Some more → Parses (more ++ wants) behind rest →
    EndsFields wants (token ∷ behind) (told r.MoreFields token ++ rest)
unfolding row told is_kept
more_by most fuel finds finds_more t.RightBrace wants more token behind rest short low is row_is parsed =
    no_more r.MoreFields wants more token behind rest is (sym (some_is row_is)) parsed
more_by most fuel finds finds_more t.Comma wants more token behind rest short low is row_is parsed =
    let found = then_more most fuel finds finds_more wants behind rest short (omega arith)
    (subst (λ all. Parses (all ++ wants) behind rest) (sym (some_is row_is)) parsed) in
    record {
      fields = found.fields;
      front = found.front;
      right = found.right;
      rest = found.rest;
      behind = found.behind;
      right_is = found.right_is;
      spelled = found.spelled;
      parsed = found.parsed;
      whole = rw is found.whole;
      shorter = omega (arith, found.shorter);
    }
more_by most fuel finds finds_more _ wants more token behind rest short low is row_is parsed = cc

none_left : {rule : Rule} {wants : List Rule} {tokens : List Lexeme} {nodes : List Told} → length tokens ≤ 0 → Taken rule wants tokens nodes → ⊥
none_left short first = omega (arith, ap length first.tokens_are)

more_found : (most : ℕ) → Finds most → (fuel : ℕ) → fuel ≤ most → FindsFields r.MoreFields fuel
unfolding otherwise
more_found most finds zero low wants tokens nodes short parsed = absurd (none_left short (taken r.MoreFields wants tokens nodes refl parsed))
more_found most finds (suc fuel) low wants tokens nodes short parsed =
    let first = taken r.MoreFields wants tokens nodes refl parsed in
    let long = ap length first.tokens_are in
    let found = more_by most fuel finds (more_found most finds fuel (omega arith)) first.token.terminal wants first.more first.token
    first.behind first.rest (omega arith) (omega arith) refl first.is first.parsed in
    record {
      fields = found.fields;
      front = found.front;
      right = found.right;
      rest = found.rest;
      behind = found.behind;
      right_is = found.right_is;
      spelled = found.spelled;
      parsed = found.parsed;
      whole = first.nodes_are ∙ found.whole;
      shorter = omega (arith, found.shorter);
    }

end_only : IsOnly r.Fields t.RightBrace
unfolding row
end_only t.RightBrace more is = (refl, sym (some_is is))
end_only _ more is = cc

fields_found : (most : ℕ) → Finds most → FindsFields r.Fields most
unfolding otherwise
fields_found most finds wants _ _ short (Takes {more = more} {token = token} {tokens = tokens} {nodes = nodes} is parsed) =
    let end = end_only token.terminal more is in
    no_more r.Fields wants more token tokens nodes end.0 end.1 parsed
fields_found most finds wants tokens nodes short (Stands {more = more} none other parsed) =
    then_more most most finds (more_found most finds most (omega arith)) wants tokens nodes short (omega arith)
    (subst (λ all. Parses (all ++ wants) tokens nodes) (sym (some_is other)) parsed)

-- ---- types

single : (rule : Rule) (shape : Shape) (class : Terminal) (wants more : List Rule) (token : Lexeme) (behind : List Lexeme) (rest : List Told) →
    token.terminal ≡ class → is_kept class ≡ true → Spells shape (node rule token ∷ []) → more ≡ [] → Parses (more ++ wants) behind rest →
    BeginsWithType wants (token ∷ behind) (told rule token ++ rest)
single rule shape class wants more token behind rest is kept_is spells more_is parsed = record {
  shape = shape;
  front = node rule token ∷ [];
  rest = rest;
  behind = behind;
  spelled = spells;
  parsed = subst (λ all. Parses (all ++ wants) behind rest) more_is parsed;
  whole = ap (λ front. front ++ rest) (kept rule token class is kept_is);
  shorter = omega arith;
}

row_type : (most : ℕ) → Finds most → (wants : List Rule) (token : Lexeme) (behind : List Lexeme) (rest : List Told) → length behind ≤ most →
    token.terminal ≡ t.LeftBracket → Parses (r.ArraySize ∷ r.KeyX ∷ r.Type ∷ r.CloseArray ∷ wants) behind rest →
    BeginsWithType wants (token ∷ behind) (told r.Type token ++ rest)
unfolding otherwise is_kept
row_type most finds wants token behind rest short is parsed =
    let size = one r.ArraySize t.Natural (r.KeyX ∷ r.Type ∷ r.CloseArray ∷ wants) behind rest size_only refl refl parsed in
    let key = one r.KeyX t.KeyX (r.Type ∷ r.CloseArray ∷ wants) size.behind size.rest key_only refl refl size.parsed in
    let long = ap length size.tokens_are in
    let longer = ap length key.tokens_are in
    let inner = finds (r.CloseArray ∷ wants) key.behind key.rest (omega arith) key.parsed in
    let close = one r.CloseArray t.RightBracket wants inner.behind inner.rest close_only refl refl inner.parsed in
    let longest = ap length close.tokens_are in
    let left = node r.Type token in
    let count = node r.ArraySize size.token in
    let x = node r.KeyX key.token in
    let right = node r.CloseArray close.token in
    record {
      shape = Array (count_of size.token.text) inner.shape;
      front = left ∷ count ∷ x ∷ inner.front ++ right ∷ [];
      rest = close.rest;
      behind = close.behind;
      spelled = Row right is size.is key.is close.is inner.spelled;
      parsed = close.parsed;
      whole = ap (λ front. front ++ rest) (kept r.Type token t.LeftBracket is refl)
          ∙ ap (λ all. left ∷ all) (size.nodes_are ∙ ap (λ all. count ∷ all) (key.nodes_are ∙ ap (λ all. x ∷ all)
          (inner.whole ∙ ap (λ all. inner.front ++ all) close.nodes_are ∙ sym (append_assoc inner.front (right ∷ []) close.rest))));
      shorter = omega (arith, inner.shorter);
    }

plain_type : (most : ℕ) → Finds most → (rule : Rule) (wants : List Rule) (token : Lexeme) (behind : List Lexeme) (rest : List Told) →
    length behind ≤ most → token.terminal ≡ t.LeftBrace → Parses (r.Fields ∷ wants) behind rest →
    BeginsWithType wants (token ∷ behind) (told rule token ++ rest)
unfolding is_kept
plain_type most finds rule wants token behind rest short is parsed =
    let inner = fields_found most finds wants behind rest short parsed in
    let left = node rule token in
    record {
      shape = Struct false inner.fields;
      front = left ∷ inner.front ++ inner.right ∷ [];
      rest = inner.rest;
      behind = inner.behind;
      spelled = Plain inner.right is inner.right_is inner.spelled;
      parsed = inner.parsed;
      whole = ap (λ front. front ++ rest) (kept rule token t.LeftBrace is refl)
          ∙ ap (λ all. left ∷ all) (inner.whole ∙ sym (append_assoc inner.front (inner.right ∷ []) inner.rest));
      shorter = omega (arith, inner.shorter);
    }

packed_type : (most : ℕ) → Finds most → (rule : Rule) (wants : List Rule) (token : Lexeme) (behind : List Lexeme) (rest : List Told) →
    length behind ≤ most → token.terminal ≡ t.Less → Parses (r.PackedBrace ∷ r.Fields ∷ r.CloseType ∷ wants) behind rest →
    BeginsWithType wants (token ∷ behind) (told rule token ++ rest)
unfolding otherwise is_kept
packed_type most finds rule wants token behind rest short is parsed =
    let brace = one r.PackedBrace t.LeftBrace (r.Fields ∷ r.CloseType ∷ wants) behind rest brace_only refl refl parsed in
    let long = ap length brace.tokens_are in
    let inner = fields_found most finds (r.CloseType ∷ wants) brace.behind brace.rest (omega arith) brace.parsed in
    let close = one r.CloseType t.Greater wants inner.behind inner.rest greater_only refl refl inner.parsed in
    let longest = ap length close.tokens_are in
    let less = node rule token in
    let left = node r.PackedBrace brace.token in
    let greater = node r.CloseType close.token in
    record {
      shape = Struct true inner.fields;
      front = less ∷ left ∷ inner.front ++ inner.right ∷ greater ∷ [];
      rest = close.rest;
      behind = close.behind;
      spelled = Packed inner.right greater is brace.is inner.right_is close.is inner.spelled;
      parsed = close.parsed;
      whole = ap (λ front. front ++ rest) (kept rule token t.Less is refl)
          ∙ ap (λ all. less ∷ all) (brace.nodes_are ∙ ap (λ all. left ∷ all)
          (inner.whole ∙ ap (λ all. inner.front ++ inner.right ∷ all) close.nodes_are ∙ sym (append_assoc inner.front (inner.right ∷ greater ∷ []) close.rest)));
      shorter = omega (arith, inner.shorter);
    }

abbrev Begun : Rule → Type 0
Begun rule = (most : ℕ) → Finds most → (class : Terminal) (wants more : List Rule) (token : Lexeme) (behind : List Lexeme) (rest : List Told) →
    length behind ≤ most → token.terminal ≡ class → row rule class ≡ Some more → Parses (more ++ wants) behind rest →
    BeginsWithType wants (token ∷ behind) (told rule token ++ rest)

type_by : Begun r.Type
unfolding row is_kept
type_by most finds t.Int wants more token behind rest short is row_is parsed =
    single r.Type (Int (bits_of token.text)) t.Int wants more token behind rest is refl (Integer is) (sym (some_is row_is)) parsed
type_by most finds t.Ptr wants more token behind rest short is row_is parsed =
    single r.Type Ptr t.Ptr wants more token behind rest is refl (Pointer is) (sym (some_is row_is)) parsed
type_by most finds t.Local wants more token behind rest short is row_is parsed =
    single r.Type (Named (name_of t.Local token.text)) t.Local wants more token behind rest is refl (Name is) (sym (some_is row_is)) parsed
type_by most finds t.LeftBracket wants more token behind rest short is row_is parsed =
    row_type most finds wants token behind rest short is (subst (λ all. Parses (all ++ wants) behind rest) (sym (some_is row_is)) parsed)
type_by most finds t.LeftBrace wants more token behind rest short is row_is parsed =
    plain_type most finds r.Type wants token behind rest short is (subst (λ all. Parses (all ++ wants) behind rest) (sym (some_is row_is)) parsed)
type_by most finds t.Less wants more token behind rest short is row_is parsed =
    packed_type most finds r.Type wants token behind rest short is (subst (λ all. Parses (all ++ wants) behind rest) (sym (some_is row_is)) parsed)
type_by most finds _ wants more token behind rest short is row_is parsed = cc

-- what was found of the tokens behind the first
of_taken : (rule : Rule) (wants : List Rule) (tokens : List Lexeme) (nodes : List Told) (first : Taken rule wants tokens nodes) →
    BeginsWithType wants (first.token ∷ first.behind) (told rule first.token ++ first.rest) → BeginsWithType wants tokens nodes
of_taken rule wants tokens nodes first found = record {
  shape = found.shape;
  front = found.front;
  rest = found.rest;
  behind = found.behind;
  spelled = found.spelled;
  parsed = found.parsed;
  whole = first.nodes_are ∙ found.whole;
  shorter = omega (arith, found.shorter, ap length first.tokens_are);
}

types_found : (most : ℕ) → Finds most
unfolding otherwise
types_found zero wants tokens nodes short parsed = absurd (none_left short (taken r.Type wants tokens nodes refl parsed))
types_found (suc most) wants tokens nodes short parsed =
    let first = taken r.Type wants tokens nodes refl parsed in
    let long = ap length first.tokens_are in
    of_taken r.Type wants tokens nodes first
    (type_by most (types_found most) first.token.terminal wants first.more first.token first.behind first.rest (omega arith) refl first.is first.parsed)

-- ---- each rule of types

abbrev Types : Rule → Type 0
Types rule = (wants : List Rule) (tokens : List Lexeme) (nodes : List Told) → Parses (rule ∷ wants) tokens nodes → BeginsWithType wants tokens nodes

pub types : Types r.Type
types wants tokens nodes parsed = types_found (length tokens) wants tokens nodes (omega arith) parsed

by_first : (rule : Rule) → otherwise rule ≡ None → Begun rule → Types rule
by_first rule none begun wants tokens nodes parsed =
    let first = taken rule wants tokens nodes none parsed in
    of_taken rule wants tokens nodes first
    (begun (length first.behind) (types_found (length first.behind)) first.token.terminal wants first.more first.token first.behind first.rest
    (omega arith) refl first.is first.parsed)

aggregate_by : Begun r.Aggregate
unfolding row
aggregate_by most finds t.LeftBrace wants more token behind rest short is row_is parsed =
    plain_type most finds r.Aggregate wants token behind rest short is (subst (λ all. Parses (all ++ wants) behind rest) (sym (some_is row_is)) parsed)
aggregate_by most finds t.Less wants more token behind rest short is row_is parsed =
    packed_type most finds r.Aggregate wants token behind rest short is (subst (λ all. Parses (all ++ wants) behind rest) (sym (some_is row_is)) parsed)
aggregate_by most finds _ wants more token behind rest short is row_is parsed = cc

value_by : Begun r.ValueType
unfolding row is_kept
value_by most finds t.Int wants more token behind rest short is row_is parsed =
    single r.ValueType (Int (bits_of token.text)) t.Int wants more token behind rest is refl (Integer is) (sym (some_is row_is)) parsed
value_by most finds t.Ptr wants more token behind rest short is row_is parsed =
    single r.ValueType Ptr t.Ptr wants more token behind rest is refl (Pointer is) (sym (some_is row_is)) parsed
value_by most finds _ wants more token behind rest short is row_is parsed = cc

parameter_by : Begun r.ParameterType
unfolding row is_kept
parameter_by most finds t.Int wants more token behind rest short is row_is parsed =
    single r.ParameterType (Int (bits_of token.text)) t.Int wants more token behind rest is refl (Integer is) (sym (some_is row_is)) parsed
parameter_by most finds t.Ptr wants more token behind rest short is row_is parsed =
    single r.ParameterType Ptr t.Ptr wants more token behind rest is refl (Pointer is) (sym (some_is row_is)) parsed
parameter_by most finds _ wants more token behind rest short is row_is parsed = cc

result_by : Begun r.ResultType
unfolding row is_kept
result_by most finds t.Int wants more token behind rest short is row_is parsed =
    single r.ResultType (Int (bits_of token.text)) t.Int wants more token behind rest is refl (Integer is) (sym (some_is row_is)) parsed
result_by most finds t.Ptr wants more token behind rest short is row_is parsed =
    single r.ResultType Ptr t.Ptr wants more token behind rest is refl (Pointer is) (sym (some_is row_is)) parsed
result_by most finds t.Void wants more token behind rest short is row_is parsed =
    single r.ResultType Void t.Void wants more token behind rest is refl (Nowhere is) (sym (some_is row_is)) parsed
result_by most finds _ wants more token behind rest short is row_is parsed = cc

pub aggregates : Types r.Aggregate
unfolding otherwise
aggregates = by_first r.Aggregate refl aggregate_by

pub values : Types r.ValueType
unfolding otherwise
values = by_first r.ValueType refl value_by

pub parameters : Types r.ParameterType
unfolding otherwise
parameters = by_first r.ParameterType refl parameter_by

pub results : Types r.ResultType
unfolding otherwise
results = by_first r.ResultType refl result_by
