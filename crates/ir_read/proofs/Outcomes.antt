-- What a reading answers, by what the machine does over its tokens.
use Rattle.std.proofs.Common.{◌≡◌, ℕ, suc, ◌<◌, ◌≤◌, Bool, true, false, List, [], ◌∷◌, ◌++◌, length, take, Option, Some, None, Result, Ok, Err, option_map, refl, ap, ◌∙◌, sym, arith, append_assoc}
use Rattle.std.specs.Prelude.{◌&&◌, if◌then◌else◌}
use Rattle.std.proofs.lemmas.List.{append-nil}
use Rattle.ir_read.specs.declared.error.ModuleError.{ModuleError}
use Rattle.ir_read.specs.declared.error.ModuleError.TheVariants as errors
use Rattle.ir_read.specs.declared.grammar.Rule.{Rule}
use Rattle.ir_read.specs.declared.machine.Refusal.{Refusal}
use Rattle.ir_read.specs.declared.skip.Mode.{Mode}
use Rattle.ir_read.specs.declared.skip.Mode.TheVariants as m
use Rattle.ir_read.specs.Laws.{IsErrorAt, token_at}
use Rattle.ir_read.specs.Machine.{Fed, State, done, fed, is_done, is_free, state}
use Rattle.ir_read.specs.Wants.{is_nothing}
use Rattle.ir_read.specs.Node.{Lexeme, Told, noted}
use Rattle.ir_read.specs.Read.{Progress, behind_after, directly_behind, finished, go_on, put, put_by, read_from}
use Rattle.ir_read.proofs.Equations.{first_is, ok_is, second_is, some_is}
use Rattle.ir_read.proofs.Runs.{behind, runs, runs_step, stepped}

-- a reading behind a token that could be read
abbrev after : Progress → Lexeme → Option Rule → State → Progress
after progress token taken next = record {
  state = next;
  behind_type = behind_after taken progress.state.mode progress.behind_type token.terminal;
  nodes = progress.nodes ++ noted taken token;
}

-- ---- the end

done_is : (from : State) → is_done from ≡ true → from ≡ done
done_is from is = parts from.mode from.wants is
  where
    parts : (mode : Mode) (wants : List Rule) → (is_free mode && is_nothing wants) ≡ true → state mode wants ≡ done
    parts m.Free [] is = refl
    parts _ _ is = cc

finished_ok : (progress : Progress) (nodes : List Told) (is : Bool) → is_done progress.state ≡ is →
    ◌≡◌ {A = Result (List Told) ModuleError} (if is then Ok progress.nodes else Err (errors.Syntax 0)) (Ok nodes) →
    (progress.state ≡ done) × (progress.nodes ≡ nodes)
finished_ok progress nodes false is answer = cc
finished_ok progress nodes true is answer = (done_is progress.state is, ok_is answer)

-- ---- what was read

pub record Read (progress : Progress) (tokens : List Lexeme) (nodes : List Told) : Type 0 where
  pub rest : List Told
  pub run : runs progress.state tokens ≡ Some (rest, done)
  pub nodes_are : progress.nodes ++ rest ≡ nodes

read_step : (progress : Progress) (token : Lexeme) (tokens : List Lexeme) (nodes : List Told) (answer : Fed) →
    fed progress.state token.terminal ≡ answer →
    ((progress : Progress) (nodes : List Told) → read_from progress tokens ≡ Ok nodes → Read progress tokens nodes) →
    go_on (put_by progress token answer) (λ next. read_from next tokens) ≡ Ok nodes → Read progress (token ∷ tokens) nodes
read_step progress token tokens nodes (Err refusal) is ih answer = cc
read_step progress token tokens nodes (Ok (taken, next)) is ih answer =
    let read = ih (after progress token taken next) nodes answer in
    record {
      rest = noted taken token ++ read.rest;
      run = runs_step progress.state next done token tokens taken read.rest is read.run;
      nodes_are = sym (append_assoc progress.nodes (noted taken token) read.rest) ∙ read.nodes_are;
    }

pub read_ok : (tokens : List Lexeme) (progress : Progress) (nodes : List Told) → read_from progress tokens ≡ Ok nodes →
    Read progress tokens nodes
unfolding read_from put finished runs
read_ok [] progress nodes is =
    let end = finished_ok progress nodes (is_done progress.state) refl is in
    record {
      rest = [];
      run = ap (λ (last : State). Some ([], last)) end.0;
      nodes_are = append-nil progress.nodes ∙ end.1;
    }
read_ok (token ∷ tokens) progress nodes is =
    read_step progress token tokens nodes (fed progress.state token.terminal) refl
    (λ next kept found. read_ok tokens next kept found) is

pub read_again : (tokens : List Lexeme) (progress : Progress) (rest : List Told) → runs progress.state tokens ≡ Some (rest, done) →
    read_from progress tokens ≡ Ok (progress.nodes ++ rest)
unfolding read_from put finished runs
read_again [] progress rest is =
    let pair = some_is is in
    rw (second_is pair, ← first_is pair, append-nil progress.nodes) refl
read_again (token ∷ tokens) progress rest is =
    let step = stepped progress.state done token tokens rest is in
    let read = read_again tokens (after progress token step.taken step.next) step.rest step.runs_is in
    rw step.fed_is
    (read ∙ ap (λ (all : List Told). Ok all) (append_assoc progress.nodes (noted step.taken token) step.rest
    ∙ ap (λ more. progress.nodes ++ more) step.nodes_are))

-- ---- where reading stopped

pub record Stopped (progress : Progress) (tokens : List Lexeme) (error : ModuleError) : Type 0 where
  pub place : ℕ
  pub within : place ≤ length tokens
  pub kept : List Told
  pub end : State
  pub before : runs progress.state (take place tokens) ≡ Some (kept, end)
  pub here : place < length tokens → runs progress.state (take (suc place) tokens) ≡ None
  pub error_is : place < length tokens → IsErrorAt error (token_at tokens place)

runs_not : (from next : State) (token : Lexeme) (tokens : List Lexeme) (taken : Option Rule) →
    fed from token.terminal ≡ Ok (taken, next) → runs next tokens ≡ None → runs from (token ∷ tokens) ≡ None
unfolding runs
runs_not from next token tokens taken is none = rw (is, none) refl

runs_refused : (from : State) (token : Lexeme) (tokens : List Lexeme) (refusal : Refusal) → fed from token.terminal ≡ Err refusal →
    runs from (token ∷ tokens) ≡ None
unfolding runs
runs_refused from token tokens refusal is = rw is refl

err_is : {x y : ModuleError} → ◌≡◌ {A = Result (List Told) ModuleError} (Err x) (Err y) → x ≡ y
err_is is = cc

stopped_step : (progress : Progress) (token : Lexeme) (tokens : List Lexeme) (error : ModuleError) (answer : Fed) →
    fed progress.state token.terminal ≡ answer →
    ((progress : Progress) (error : ModuleError) → read_from progress tokens ≡ Err error → Stopped progress tokens error) →
    go_on (put_by progress token answer) (λ next. read_from next tokens) ≡ Err error → Stopped progress (token ∷ tokens) error
unfolding runs
stopped_step progress token tokens error (Err refusal) is ih answer = record {
  place = 0;
  within = omega arith;
  kept = [];
  end = progress.state;
  before = refl;
  here = λ lt. runs_refused progress.state token (take 0 tokens) refusal is;
  error_is = λ lt. (directly_behind progress.state.mode progress.behind_type, refusal, sym (err_is answer));
}
stopped_step progress token tokens error (Ok (taken, next)) is ih answer =
    let stop = ih (after progress token taken next) error answer in
    record {
      place = suc stop.place;
      within = omega (arith, stop.within);
      kept = noted taken token ++ stop.kept;
      end = stop.end;
      before = runs_step progress.state next stop.end token (take stop.place tokens) taken stop.kept is stop.before;
      here = λ lt. runs_not progress.state next token (take (suc stop.place) tokens) taken is (stop.here (omega arith));
      error_is = λ lt. stop.error_is (omega arith);
    }

pub read_err : (tokens : List Lexeme) (progress : Progress) (error : ModuleError) → read_from progress tokens ≡ Err error →
    Stopped progress tokens error
unfolding read_from put finished runs
read_err [] progress error is = record {
  place = 0;
  within = omega arith;
  kept = [];
  end = progress.state;
  before = refl;
  here = λ lt. absurd (omega arith);
  error_is = λ lt. absurd (omega arith);
}
read_err (token ∷ tokens) progress error is =
    stopped_step progress token tokens error (fed progress.state token.terminal) refl
    (λ next fault found. read_err tokens next fault found) is

-- ---- what can't be read decides

runs_on_none : (from next : State) (token : Lexeme) (tokens : List Lexeme) (taken : Option Rule) →
    fed from token.terminal ≡ Ok (taken, next) → runs from (token ∷ tokens) ≡ None → runs next tokens ≡ None
unfolding runs
runs_on_none from next token tokens taken is none = by (runs next tokens) refl (rw is at none)
  where
    by : (run : Option (List Told × State)) → runs next tokens ≡ run → option_map (behind taken token) (runs next tokens) ≡ None → runs next tokens ≡ None
    by None is none = is
    by (Some rest) is none = cc

read_front_by : (progress : Progress) (token : Lexeme) (front rest other : List Lexeme) (answer : Fed) →
    fed progress.state token.terminal ≡ answer →
    ((progress : Progress) → runs progress.state front ≡ None → read_from progress (front ++ rest) ≡ read_from progress (front ++ other)) →
    runs progress.state (token ∷ front) ≡ None →
    go_on (put_by progress token answer) (λ next. read_from next (front ++ rest))
    ≡ go_on (put_by progress token answer) (λ next. read_from next (front ++ other))
read_front_by progress token front rest other (Err refusal) is ih none = refl
read_front_by progress token front rest other (Ok (taken, next)) is ih none =
    ih (after progress token taken next) (runs_on_none progress.state next token front taken is none)

pub read_front : (front : List Lexeme) (progress : Progress) (rest other : List Lexeme) → runs progress.state front ≡ None →
    read_from progress (front ++ rest) ≡ read_from progress (front ++ other)
unfolding read_from put runs
read_front [] progress rest other none = cc
read_front (token ∷ front) progress rest other none =
    read_front_by progress token front rest other (fed progress.state token.terminal) refl
    (λ next found. read_front front next rest other found) none
