-- The place where reading stopped is the first fault.
use Rattle.std.proofs.Common.{◌≡◌, ℕ, suc, ◌+◌, ◌<◌, ◌≤◌, List, [], ◌∷◌, ◌++◌, length, take, drop, Option, Some, None, Result, Ok, Err, refl, ap, ◌∙◌, sym, subst, add-one, arith}
use Rattle.std.proofs.lemmas.List.{take-append-drop, take-take, take_all}
use Rattle.ir_read.specs.declared.error.ModuleError.{ModuleError}
use Rattle.ir_lex.specs.Token.{Lexeme as Token}
use Rattle.ir_read.specs.declared.read.Ending.{Ending}
use Rattle.ir_read.specs.declared.read.Ending.TheVariants as endings
use Rattle.ir_read.specs.declared.grammar.Rule.TheVariants as r
use Rattle.ir_read.specs.declared.skip.Mode.TheVariants as m
use Rattle.ir_read.specs.Laws.{Accepted, Begins, IsErrorAt, IsErrorOf, IsFirstFault, IsText, token_at}
use Rattle.ir_read.specs.Machine.{State, begun, done}
use Rattle.ir_read.specs.Node.{Lexeme, Told}
use Rattle.ir_read.specs.Read.{beginning, lexemes_of, raw_module_of}
use Rattle.ir_read.proofs.Accepted.{complete, sound}
use Rattle.ir_read.proofs.Bottom.{text_done}
use Rattle.ir_read.proofs.Finish.{finish_state}
use Rattle.ir_read.proofs.Outcomes.{Stopped, read_again, read_err, read_front, read_ok}
use Rattle.ir_read.proofs.Runs.{runs, runs_front, runs_join}

accepted_runs : (tokens : List Lexeme) → Accepted tokens → (nodes : List Told) × (runs begun tokens ≡ Some (nodes, done))
accepted_runs tokens (nodes, reads) = (nodes, complete m.Free tokens reads.bare (r.Items ∷ []) nodes reads.skipped reads.parsed)

runs_accepted : (tokens : List Lexeme) (nodes : List Told) → runs begun tokens ≡ Some (nodes, done) → Accepted tokens
runs_accepted tokens nodes run =
    let read = sound tokens m.Free (r.Items ∷ []) nodes run in
    (nodes, record { bare = read.bare; skipped = read.skipped; parsed = read.parsed })

-- what could be read begins a module
read_begins : (tokens : List Lexeme) (kept : List Told) (end : State) → runs begun tokens ≡ Some (kept, end) → Begins tokens
read_begins tokens kept end run =
    let rest = finish_state end.mode end.wants in
    record {
      rest = rest.tokens;
      real = rest.real;
      whole = runs_accepted (tokens ++ rest.tokens) (kept ++ rest.kept)
          (runs_join tokens begun end done rest.tokens kept rest.kept run rest.run);
    }

-- what begins a module can be read
unread_begins_none : (tokens : List Lexeme) → runs begun tokens ≡ None → Begins tokens → ⊥
unread_begins_none tokens none begins =
    let whole = accepted_runs (tokens ++ begins.rest) begins.whole in
    let front = runs_front tokens begun done begins.rest whole.0 whole.1 in
    cc (front.run, none)

-- a text isn't refused behind its end
stops_within : (tokens : List Lexeme) (error : ModuleError) → IsText tokens → raw_module_of tokens ≡ Err error →
    (kept : List Told) (end : State) → runs begun tokens ≡ Some (kept, end) → ⊥
stops_within tokens error text is kept end run =
    let last = text_done tokens begun end kept text refl run in
    let again = read_again tokens beginning kept (run ∙ ap (λ (state : State). Some (kept, state)) last) in
    cc (again, is)

below_end : (tokens : List Lexeme) (error : ModuleError) (text : IsText tokens) (is : raw_module_of tokens ≡ Err error)
    (stop : Stopped beginning tokens error) → stop.place < length tokens
below_end tokens error text is stop =
    let not_end : ¬ (length tokens ≤ stop.place) = λ le.
    stops_within tokens error text is stop.kept stop.end
    (subst (λ (front : List Lexeme). runs begun front ≡ Some (stop.kept, stop.end)) (take_all stop.place tokens le) stop.before) in
    omega arith

pub error_is_first : (tokens : List Lexeme) (error : ModuleError) → IsText tokens → raw_module_of tokens ≡ Err error →
    IsErrorOf error tokens
error_is_first tokens error text is =
    let stop = read_err tokens beginning error is in
    record {
      place = stop.place;
      first = record {
        within = stop.within;
        before = read_begins (take stop.place tokens) stop.kept stop.end stop.before;
        here = λ lt. subst (λ count. Begins (take count tokens) → ⊥) (sym (add-one stop.place))
            (unread_begins_none (take (suc stop.place) tokens) (stop.here lt));
        none = λ accepted. let whole = accepted_runs tokens accepted in
            let again = read_again tokens beginning whole.0 whole.1 in
            cc (again, is);
      };
      error_is = stop.error_is (below_end tokens error text is stop);
    }

-- ---- there is one first fault

begins_front : (front back : List Lexeme) → Begins (front ++ back) → Begins front
begins_front front back begins =
    let whole = accepted_runs ((front ++ back) ++ begins.rest) begins.whole in
    let read = runs_front (front ++ back) begun done begins.rest whole.0 whole.1 in
    let first = runs_front front begun read.end back read.kept read.run in
    read_begins front first.kept first.end first.run

begins_take : (few many : ℕ) (tokens : List Lexeme) → few ≤ many → Begins (take many tokens) → Begins (take few tokens)
begins_take few many tokens le begins =
    subst Begins (take-take few many tokens le)
    (begins_front (take few (take many tokens)) (drop few (take many tokens))
    (subst Begins (sym (take-append-drop few (take many tokens))) begins))

not_later : (tokens : List Lexeme) (one other : ℕ) → IsFirstFault tokens one → IsFirstFault tokens other → one < other → ⊥
not_later tokens one other first second lt =
    first.here (omega (arith, second.within)) (begins_take (one + 1) other tokens (omega arith) second.before)

pub first_is_one : (tokens : List Lexeme) (one other : ℕ) → IsFirstFault tokens one → IsFirstFault tokens other → one ≡ other
first_is_one tokens one other first second =
    let below : ¬ (one < other) = not_later tokens one other first second in
    let above : ¬ (other < one) = not_later tokens other one second first in
    omega arith

-- a text with a first fault is refused there
refused_by : (tokens : List Lexeme) (place : ℕ) (answer : Result (List Told) ModuleError) → IsText tokens → IsFirstFault tokens place →
    raw_module_of tokens ≡ answer →
    (error : ModuleError) × (raw_module_of tokens ≡ Err error) × IsErrorAt error (token_at tokens place)
refused_by tokens place (Ok nodes) text first is =
    let read = read_ok tokens beginning nodes is in
    absurd (first.none (runs_accepted tokens read.rest read.run))
refused_by tokens place (Err error) text first is =
    let found = error_is_first tokens error text is in
    let one = first_is_one tokens found.place place found.first first in
    (error, is, subst (λ (at : ℕ). IsErrorAt error (token_at tokens at)) one found.error_is)

pub first_is_refused : (tokens : List Lexeme) (place : ℕ) → IsText tokens → IsFirstFault tokens place →
    (error : ModuleError) × (raw_module_of tokens ≡ Err error) × IsErrorAt error (token_at tokens place)
first_is_refused tokens place text first = refused_by tokens place (raw_module_of tokens) text first refl

-- ---- a refused text is refused by its front alone

not_begun : (front : List Lexeme) (run : Option (List Told × State)) → runs begun front ≡ run → ¬ Begins front → run ≡ None
not_begun front None is not = refl
not_begun front (Some (kept, end)) is not = absurd (not (read_begins front kept end is))

pub front_decides : (front rest other : List Lexeme) → ¬ Begins front → raw_module_of (front ++ rest) ≡ raw_module_of (front ++ other)
front_decides front rest other not = read_front front beginning rest other (not_begun front (runs begun front) refl not)

-- ---- the tokens of a text

pub lexemes_are_text : (tokens : List Token) (ending : Ending) → IsText (lexemes_of tokens ending)
lexemes_are_text [] (endings.End line) = refl
lexemes_are_text [] (endings.Bad line) = refl
lexemes_are_text (token ∷ []) ending = lexemes_are_text [] ending
lexemes_are_text (token ∷ next ∷ tokens) ending = lexemes_are_text (next ∷ tokens) ending
