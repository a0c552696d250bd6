-- A rule takes a token exactly where what is wanted is there.
use Rattle.std.proofs.Common.{◌≡◌, ℕ, zero, suc, ◌<◌, ◌≤◌, Bool, true, false, List, [], ◌∷◌, ◌++◌, Option, Some, None, Result, Ok, Err, refl, ◌∙◌, sym, arith, subst, ltb-true, leb-true}
use Rattle.std.specs.Prelude.{nat_lt, nat_le}
use Rattle.ir_read.specs.declared.grammar.Rule.{Rule}
use Rattle.ir_read.specs.declared.grammar.Rule.TheVariants as r
use Rattle.ir_read.specs.Grammar.{otherwise, row}
use Rattle.ir_read.specs.Laws.{Parses, Takes, Stands}
use Rattle.ir_read.specs.Node.{Lexeme, Told, told}
use Rattle.ir_read.specs.Wants.{advance, chosen}
use Rattle.ir_read.proofs.Advance.{advance_stands, advance_takes}
use Rattle.ir_read.proofs.Equations.{first_is, ok_is, second_is}

-- ---- where a rule took a token, what is wanted is there

taken : (first : Rule) (wants more : List Rule) (token : Lexeme) (rule : Rule) (left : List Rule) (tokens : List Lexeme) (nodes : List Told) →
    row first token.terminal ≡ Some more → first ≡ rule → more ++ wants ≡ left → Parses left tokens nodes →
    Parses (first ∷ wants) (token ∷ tokens) (told rule token ++ nodes)
taken first wants more token rule left tokens nodes is rule_is left_is parsed =
    subst (λ by. Parses (first ∷ wants) (token ∷ tokens) (told by token ++ nodes)) rule_is
    (Takes is (subst (λ all. Parses all tokens nodes) (sym left_is) parsed))

chosen_sound : (first : Rule) (wants : List Rule) (token : Lexeme) (rule : Rule) (left : List Rule) (tokens : List Lexeme) (nodes : List Told)
    (found other : Option (List Rule)) (next : List Rule → Result (Rule × List Rule) Rule) → row first token.terminal ≡ found →
    ((more : List Rule) → row first token.terminal ≡ None → other ≡ Some more → next more ≡ Ok (rule, left) →
    Parses (first ∷ wants) (token ∷ tokens) (told rule token ++ nodes)) →
    chosen first wants found other next ≡ Ok (rule, left) → Parses left tokens nodes →
    Parses (first ∷ wants) (token ∷ tokens) (told rule token ++ nodes)
chosen_sound first wants token rule left tokens nodes (Some more) other next found deeper is parsed =
    let pair = ok_is is in
    taken first wants more token rule left tokens nodes found (first_is pair) (second_is pair) parsed
chosen_sound first wants token rule left tokens nodes None None next found deeper is parsed = cc
chosen_sound first wants token rule left tokens nodes None (Some more) next found deeper is parsed = deeper more found refl is

pub advance_sound : (depth : ℕ) (wants : List Rule) (token : Lexeme) (rule : Rule) (left : List Rule) (tokens : List Lexeme)
    (nodes : List Told) → advance depth wants token.terminal ≡ Ok (rule, left) → Parses left tokens nodes →
    Parses wants (token ∷ tokens) (told rule token ++ nodes)
unfolding advance
advance_sound depth [] token rule left tokens nodes is parsed = cc
advance_sound zero (first ∷ wants) token rule left tokens nodes is parsed =
    chosen_sound first wants token rule left tokens nodes (row first token.terminal) None (λ more. Err first) refl
    (λ more none other found. cc) is parsed
advance_sound (suc depth) (first ∷ wants) token rule left tokens nodes is parsed =
    chosen_sound first wants token rule left tokens nodes (row first token.terminal) (otherwise first)
    (λ more. advance depth (more ++ wants) token.terminal) refl
    (λ more none other found. Stands none other (advance_sound depth (more ++ wants) token rule left tokens nodes found parsed)) is
    parsed

-- ---- how often a rule stands for others

rank : Rule → ℕ
rank r.MoreEdges = 2
rank r.Count = 2
rank r.Steps = 2
rank r.Declared = 1
rank r.DeclaredName = 1
rank r.NextDeclared = 1
rank r.Parameters = 1
rank r.ParameterName = 1
rank r.Fields = 1
rank r.Elements = 1
rank r.Members = 1
rank r.Body = 1
rank r.Branch = 1
rank r.Cases = 1
rank r.Returned = 1
rank r.Written = 1
rank r.NextWritten = 1
rank r.Arguments = 1
rank _ = 0

abbrev rank_of : List Rule → ℕ
rank_of [] = 0
rank_of (rule ∷ wants) = rank rule

abbrev falls : ℕ → Option (List Rule) → Bool
falls n None = true
falls n (Some []) = false
falls n (Some (first ∷ more)) = nat_lt (rank first) n

all_fall : (rule : Rule) → falls (rank rule) (otherwise rule) ≡ true
unfolding rank otherwise
all_fall r.Items = refl
all_fall _ = refl

falls_by : (n : ℕ) (wants more : List Rule) → falls n (Some more) ≡ true → rank_of (more ++ wants) < n
falls_by n wants [] is = cc
falls_by n wants (first ∷ more) is = ltb-true (rank first) n is

rank_falls : (rule : Rule) (wants more : List Rule) → otherwise rule ≡ Some more → rank_of (more ++ wants) < rank rule
rank_falls rule wants more is =
    falls_by (rank rule) wants more (subst (λ others. falls (rank rule) others ≡ true) is (all_fall rule))

all_low : (rule : Rule) → nat_le (rank rule) 3 ≡ true
unfolding rank
all_low r.Items = refl
all_low _ = refl

rank_low : (wants : List Rule) → rank_of wants ≤ 3
rank_low [] = omega arith
rank_low (rule ∷ wants) = leb-true (rank rule) 3 (all_low rule)

-- ---- where what is wanted is there, a rule takes the token

pub record Advanced (depth : ℕ) (wants : List Rule) (token : Lexeme) (tokens : List Lexeme) (nodes : List Told) : Type 0 where
  pub rule : Rule
  pub left : List Rule
  pub rest : List Told
  pub advance_is : advance depth wants token.terminal ≡ Ok (rule, left)
  pub parsed : Parses left tokens rest
  pub nodes_are : nodes ≡ told rule token ++ rest

advance_ranked : (depth : ℕ) (wants : List Rule) (token : Lexeme) (tokens : List Lexeme) (nodes : List Told) →
    Parses wants (token ∷ tokens) nodes → rank_of wants ≤ depth → Advanced depth wants token tokens nodes
advance_ranked depth _ _ _ _ (Takes {rule = rule} {wants = wants} {more = more} {token = token} {tokens = tokens} {nodes = nodes} is parsed) low =
    record {
      rule = rule;
      left = more ++ wants;
      rest = nodes;
      advance_is = advance_takes depth rule wants more token.terminal is;
      parsed = parsed;
      nodes_are = refl;
    }
advance_ranked zero _ _ _ _ (Stands {rule = rule} {wants = wants} {more = more} none other parsed) low =
    let fall = rank_falls rule wants more other in
    absurd (omega arith)
advance_ranked (suc depth) _ _ _ _ (Stands {rule = rule} {wants = wants} {more = more} {token = token} {tokens = tokens} {nodes = nodes} none other parsed) low =
    let fall = rank_falls rule wants more other in
    let deeper = advance_ranked depth (more ++ wants) token tokens nodes parsed (omega arith) in
    record {
      rule = deeper.rule;
      left = deeper.left;
      rest = deeper.rest;
      advance_is = advance_stands depth rule wants more token.terminal none other ∙ deeper.advance_is;
      parsed = deeper.parsed;
      nodes_are = deeper.nodes_are;
    }

pub advance_complete : (wants : List Rule) (token : Lexeme) (tokens : List Lexeme) (nodes : List Told) →
    Parses wants (token ∷ tokens) nodes → Advanced 3 wants token tokens nodes
advance_complete wants token tokens nodes parsed = advance_ranked 3 wants token tokens nodes parsed (rank_low wants)
