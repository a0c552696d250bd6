-- The machine over many tokens.
use Rattle.std.proofs.Common.{◌≡◌, true, false, List, [], ◌∷◌, ◌++◌, Option, Some, None, Ok, Err, refl, ap, ◌∙◌, sym, option_map, append_assoc}
use Rattle.ir_read.specs.declared.grammar.Rule.{Rule}
use Rattle.ir_read.specs.declared.skip.Mode.{Mode}
use Rattle.ir_read.specs.declared.skip.Mode.TheVariants as m
use Rattle.ir_read.specs.declared.terminal.Terminal.{Terminal}
use Rattle.ir_read.specs.declared.terminal.Terminal.TheVariants as t
use Rattle.ir_read.specs.Machine.{Fed, State, fed, fed_behind_comma, fed_free, fed_in_form, state}
use Rattle.ir_read.specs.Node.{Lexeme, Told, noted}
use Rattle.ir_read.specs.Skip.{drops_comma, is_comma, skip_of, skip_row}
use Rattle.ir_read.specs.Wants.{advance}
use Rattle.ir_read.proofs.Equations.{first_is, second_is, some_is}

abbrev pub behind : Option Rule → Lexeme → List Told × State → List Told × State
behind taken token rest = (noted taken token ++ rest.0, rest.1)

abbrev pub runs_by : Lexeme → Fed → (State → Option (List Told × State)) → Option (List Told × State)
runs_by token (Err refusal) next = None
runs_by token (Ok (taken, state)) next = option_map (behind taken token) (next state)

-- what is kept of tokens, and the state behind them, where they can be read
unfoldable pub runs : State → List Lexeme → Option (List Told × State)
runs state [] = Some ([], state)
runs state (token ∷ tokens) = runs_by token (fed state token.terminal) (λ next. runs next tokens)

-- ---- one token more

pub runs_step : (from next end : State) (token : Lexeme) (tokens : List Lexeme) (taken : Option Rule) (rest : List Told) →
    fed from token.terminal ≡ Ok (taken, next) → runs next tokens ≡ Some (rest, end) →
    runs from (token ∷ tokens) ≡ Some (noted taken token ++ rest, end)
unfolding runs
runs_step from next end token tokens taken rest is run = rw (is, run) refl

pub runs_same : (from other : State) (token : Lexeme) (tokens : List Lexeme) → fed from token.terminal ≡ fed other token.terminal →
    runs from (token ∷ tokens) ≡ runs other (token ∷ tokens)
unfolding runs
runs_same from other token tokens is = rw is refl

pub record Stepped (from : State) (token : Lexeme) (tokens : List Lexeme) (nodes : List Told) (end : State) : Type 0 where
  pub taken : Option Rule
  pub next : State
  pub rest : List Told
  pub fed_is : fed from token.terminal ≡ Ok (taken, next)
  pub runs_is : runs next tokens ≡ Some (rest, end)
  pub nodes_are : noted taken token ++ rest ≡ nodes

stepped_to : (from next end : State) (token : Lexeme) (tokens : List Lexeme) (taken : Option Rule) (nodes : List Told)
    (run : Option (List Told × State)) → fed from token.terminal ≡ Ok (taken, next) → runs next tokens ≡ run →
    option_map (behind taken token) run ≡ Some (nodes, end) → Stepped from token tokens nodes end
stepped_to from next end token tokens taken nodes None is run found = cc
stepped_to from next end token tokens taken nodes (Some (rest, last)) is run found =
    let pair = some_is found in
    record {
      taken = taken;
      next = next;
      rest = rest;
      fed_is = is;
      runs_is = run ∙ ap (λ (state : State). Some (rest, state)) (second_is pair);
      nodes_are = first_is pair;
    }

stepped_by : (from end : State) (token : Lexeme) (tokens : List Lexeme) (nodes : List Told) (answer : Fed) →
    fed from token.terminal ≡ answer → runs_by token answer (λ next. runs next tokens) ≡ Some (nodes, end) →
    Stepped from token tokens nodes end
stepped_by from end token tokens nodes (Err refusal) is found = cc
stepped_by from end token tokens nodes (Ok (taken, next)) is found =
    stepped_to from next end token tokens taken nodes (runs next tokens) is refl found

pub stepped : (from end : State) (token : Lexeme) (tokens : List Lexeme) (nodes : List Told) →
    runs from (token ∷ tokens) ≡ Some (nodes, end) → Stepped from token tokens nodes end
unfolding runs
stepped from end token tokens nodes is = stepped_by from end token tokens nodes (fed from token.terminal) refl is

-- ---- tokens behind others

pub runs_join : (front : List Lexeme) (from between end : State) (back : List Lexeme) (kept more : List Told) →
    runs from front ≡ Some (kept, between) → runs between back ≡ Some (more, end) → runs from (front ++ back) ≡ Some (kept ++ more, end)
unfolding runs
runs_join [] from between end back kept more is run =
    let pair = some_is is in
    rw (second_is pair, ← first_is pair) run
runs_join (token ∷ front) from between end back kept more is run =
    let step = stepped from between token front kept is in
    let rest = runs_join front step.next between end back step.rest more step.runs_is run in
    runs_step from step.next end token (front ++ back) step.taken (step.rest ++ more) step.fed_is rest
    ∙ ap (λ (all : List Told). Some (all, end))
    (sym (append_assoc (noted step.taken token) step.rest more) ∙ ap (λ all. all ++ more) step.nodes_are)

pub record Front (from : State) (front : List Lexeme) : Type 0 where
  pub kept : List Told
  pub end : State
  pub run : runs from front ≡ Some (kept, end)

-- what can be read to its end can be read up to any place
pub runs_front : (front : List Lexeme) (from end : State) (back : List Lexeme) (kept : List Told) →
    runs from (front ++ back) ≡ Some (kept, end) → Front from front
unfolding runs
runs_front [] from end back kept is = record { kept = []; end = from; run = refl }
runs_front (token ∷ front) from end back kept is =
    let step = stepped from end token (front ++ back) kept is in
    let rest = runs_front front step.next end back step.rest step.runs_is in
    record {
      kept = noted step.taken token ++ rest.kept;
      end = rest.end;
      run = runs_step from step.next rest.end token front step.taken rest.kept step.fed_is rest.run;
    }

-- ---- what one token does

skip_is_no_comma : (terminal : Terminal) (mode : Mode) → skip_of terminal ≡ Some mode → is_comma terminal ≡ false
unfolding skip_of is_comma
skip_is_no_comma t.Comma mode is = cc
skip_is_no_comma _ mode is = refl

pub fed_takes : (wants left : List Rule) (terminal : Terminal) (rule : Rule) → is_comma terminal ≡ false → skip_of terminal ≡ None →
    advance 3 wants terminal ≡ Ok (rule, left) → fed (state m.Free wants) terminal ≡ Ok (Some rule, state m.Free left)
unfolding fed fed_free
fed_takes wants left terminal rule comma skip is = rw (comma, skip, is) refl

pub fed_skips : (wants : List Rule) (terminal : Terminal) (mode : Mode) → skip_of terminal ≡ Some mode →
    fed (state m.Free wants) terminal ≡ Ok (None, state mode wants)
unfolding fed fed_free
fed_skips wants terminal mode is = rw (skip_is_no_comma terminal mode is, is) refl

pub fed_passes : (mode : Mode) (wants : List Rule) (terminal : Terminal) (next : Mode) → skip_row mode terminal ≡ Some next →
    fed (state mode wants) terminal ≡ Ok (None, state next wants)
unfolding fed fed_in_form skip_row
fed_passes m.Free wants terminal next is = cc
fed_passes m.Comma wants terminal next is = cc
fed_passes _ wants terminal next is = rw is refl

pub fed_holds : (wants : List Rule) (terminal : Terminal) → terminal ≡ t.Comma →
    fed (state m.Free wants) terminal ≡ Ok (None, state m.Comma wants)
unfolding fed fed_free is_comma
fed_holds wants terminal is = rw is refl

pub fed_with_comma : (wants left : List Rule) (terminal : Terminal) (rule : Rule) → drops_comma terminal ≡ false →
    advance 3 wants t.Comma ≡ Ok (rule, left) → fed (state m.Comma wants) terminal ≡ fed (state m.Free left) terminal
unfolding fed fed_behind_comma
fed_with_comma wants left terminal rule drops is = rw (drops, is) refl

pub fed_drops : (wants : List Rule) (terminal : Terminal) → drops_comma terminal ≡ true →
    fed (state m.Comma wants) terminal ≡ fed (state m.Free wants) terminal
unfolding fed fed_behind_comma
fed_drops wants terminal drops = rw drops refl
