-- The machine reads tokens to their end exactly where they are the items of a module.
use Rattle.std.proofs.Common.{◌≡◌, Bool, true, false, List, [], ◌∷◌, ◌++◌, Option, Some, None, Result, Ok, Err, refl, ap, ◌∙◌, sym, subst}
use Rattle.ir_read.specs.declared.grammar.Rule.{Rule}
use Rattle.ir_read.specs.declared.skip.Mode.{Mode}
use Rattle.ir_read.specs.declared.skip.Mode.TheVariants as m
use Rattle.ir_read.specs.declared.terminal.Terminal.{Terminal}
use Rattle.ir_read.specs.declared.terminal.Terminal.TheVariants as t
use Rattle.ir_read.specs.Laws.{Bare, Ends, Keeps, Skips, Passes, Keeps_comma, Drops_comma, Parses, Nothing}
use Rattle.ir_read.specs.Machine.{State, done, dropped_or_not, fed, fed_behind_comma, fed_free, fed_in_form, formed, held_or_not, skipped_or_taken, state, taken_by, with_comma}
use Rattle.ir_read.specs.Node.{Lexeme, Told, is_kept, noted, told}
use Rattle.ir_read.specs.Skip.{drops_comma, is_comma, skip_of, skip_row}
use Rattle.ir_read.specs.Wants.{advance}
use Rattle.ir_read.proofs.Equations.{carry, first_is, second_is, some_is}
use Rattle.ir_read.proofs.Parsing.{advance_complete, advance_sound}
use Rattle.ir_read.proofs.Runs.{fed_drops, fed_holds, fed_passes, fed_skips, fed_takes, fed_with_comma, runs, runs_same, runs_step, stepped}

told_comma : (rule : Rule) (comma : Lexeme) → comma.terminal ≡ t.Comma → told rule comma ≡ []
unfolding told is_kept
told_comma rule comma is = rw is refl

-- ---- what the machine reads are the items of a module

pub record BareParsed (mode : Mode) (wants : List Rule) (tokens : List Lexeme) (nodes : List Told) : Type 0 where
  pub bare : List Lexeme
  pub skipped : Bare mode tokens bare
  pub parsed : Parses wants bare nodes

-- behind a comma that is held, this holds of the comma and the tokens
abbrev pub Sound : Mode → List Rule → List Lexeme → List Told → Type 0
Sound m.Comma wants tokens nodes = (comma : Lexeme) → comma.terminal ≡ t.Comma → BareParsed m.Free wants (comma ∷ tokens) nodes
Sound mode wants tokens nodes = BareParsed mode wants tokens nodes

abbrev is_form : Mode → Bool
is_form m.Comma = false
is_form _ = true

abbrev is_form_or_none : Option Mode → Bool
is_form_or_none None = true
is_form_or_none (Some mode) = is_form mode

skips_are_forms : (terminal : Terminal) → is_form_or_none (skip_of terminal) ≡ true
unfolding skip_of
skips_are_forms t.End = refl
skips_are_forms _ = refl

rows_are_forms : (mode : Mode) (terminal : Terminal) → is_form_or_none (skip_row mode terminal) ≡ true
unfolding skip_row
rows_are_forms m.Free terminal = refl
rows_are_forms m.Comma terminal = refl
rows_are_forms m.AlignNumber t.Natural = refl
rows_are_forms m.AlignNumber _ = refl
rows_are_forms m.DereferenceableOpen t.LeftParen = refl
rows_are_forms m.DereferenceableOpen _ = refl
rows_are_forms m.DereferenceableNumber t.Natural = refl
rows_are_forms m.DereferenceableNumber _ = refl
rows_are_forms m.CapturesOpen t.LeftParen = refl
rows_are_forms m.CapturesOpen _ = refl
rows_are_forms m.CapturesNone t.KeyNone = refl
rows_are_forms m.CapturesNone _ = refl
rows_are_forms m.FormClose t.RightParen = refl
rows_are_forms m.FormClose _ = refl
rows_are_forms m.MetadataNumber t.MetadataNumber = refl
rows_are_forms m.MetadataNumber _ = refl

form_is : (found : Option Mode) (mode : Mode) → is_form_or_none found ≡ true → found ≡ Some mode → is_form mode ≡ true
form_is found mode form is = subst (λ other. is_form_or_none other ≡ true) is form

bare_sound : (mode : Mode) (wants : List Rule) (tokens : List Lexeme) (nodes : List Told) → is_form mode ≡ true →
    Sound mode wants tokens nodes → BareParsed mode wants tokens nodes
bare_sound m.Comma wants tokens nodes form sound = cc
bare_sound _ wants tokens nodes form sound = sound

abbrev Rest : List Lexeme → Type 0
Rest tokens = (mode : Mode) (wants : List Rule) (nodes : List Told) → runs (state mode wants) tokens ≡ Some (nodes, done) →
    Sound mode wants tokens nodes

-- what follows of what a token did, once its rest was read
abbrev Reading : Mode → List Rule → Lexeme → List Lexeme → Option Rule → State → Type 0
Reading mode wants token tokens taken next = (rest : List Told) → runs next tokens ≡ Some (rest, done) →
    BareParsed mode wants (token ∷ tokens) (noted taken token ++ rest)

comma_is : (terminal : Terminal) → is_comma terminal ≡ true → terminal ≡ t.Comma
unfolding is_comma
comma_is t.Comma is = refl
comma_is _ is = cc

sound_taken : (wants : List Rule) (token : Lexeme) (tokens : List Lexeme) (taken : Option Rule) (next : State)
    (found : Result (Rule × List Rule) Rule) → Rest tokens → is_comma token.terminal ≡ false → skip_of token.terminal ≡ None →
    advance 3 wants token.terminal ≡ found → taken_by found ≡ Ok (taken, next) → Reading m.Free wants token tokens taken next
unfolding noted
sound_taken wants token tokens taken next (Err rule) ih comma skip is answer = cc
sound_taken wants token tokens taken next (Ok (rule, left)) ih comma skip is answer =
    carry (Reading m.Free wants token tokens) answer
    (λ rest run. let read = ih m.Free left rest run in record {
      bare = token ∷ read.bare;
      skipped = Keeps comma skip read.skipped;
      parsed = advance_sound 3 wants token rule left read.bare rest is read.parsed;
    })

sound_skipped : (wants : List Rule) (token : Lexeme) (tokens : List Lexeme) (taken : Option Rule) (next : State) (found : Option Mode) →
    Rest tokens → is_comma token.terminal ≡ false → skip_of token.terminal ≡ found →
    skipped_or_taken found wants token.terminal ≡ Ok (taken, next) → Reading m.Free wants token tokens taken next
unfolding noted
sound_skipped wants token tokens taken next None ih comma is answer =
    sound_taken wants token tokens taken next (advance 3 wants token.terminal) ih comma is refl answer
sound_skipped wants token tokens taken next (Some mode) ih comma is answer =
    let form = form_is (skip_of token.terminal) mode (skips_are_forms token.terminal) is in
    carry (Reading m.Free wants token tokens) answer
    (λ rest run. let read = bare_sound mode wants tokens rest form (ih mode wants rest run) in record {
      bare = read.bare;
      skipped = Skips is read.skipped;
      parsed = read.parsed;
    })

sound_held : (wants : List Rule) (token : Lexeme) (tokens : List Lexeme) (taken : Option Rule) (next : State) (comma : Bool) →
    Rest tokens → is_comma token.terminal ≡ comma → held_or_not comma wants token.terminal ≡ Ok (taken, next) →
    Reading m.Free wants token tokens taken next
unfolding noted
sound_held wants token tokens taken next false ih comma answer =
    sound_skipped wants token tokens taken next (skip_of token.terminal) ih comma refl answer
sound_held wants token tokens taken next true ih comma answer =
    carry (Reading m.Free wants token tokens) answer
    (λ rest run. ih m.Comma wants rest run token (comma_is token.terminal comma))

sound_free : (wants : List Rule) (token : Lexeme) (tokens : List Lexeme) (taken : Option Rule) (next : State) → Rest tokens →
    fed_free wants token.terminal ≡ Ok (taken, next) → Reading m.Free wants token tokens taken next
unfolding fed_free
sound_free wants token tokens taken next ih answer = sound_held wants token tokens taken next (is_comma token.terminal) ih refl answer

sound_row : (mode : Mode) (wants : List Rule) (token : Lexeme) (tokens : List Lexeme) (taken : Option Rule) (next : State)
    (found : Option Mode) → Rest tokens → skip_row mode token.terminal ≡ found → formed mode wants found ≡ Ok (taken, next) →
    Reading mode wants token tokens taken next
unfolding noted
sound_row mode wants token tokens taken next None ih is answer = cc
sound_row mode wants token tokens taken next (Some behind) ih is answer =
    let form = form_is (skip_row mode token.terminal) behind (rows_are_forms mode token.terminal) is in
    carry (Reading mode wants token tokens) answer
    (λ rest run. let read = bare_sound behind wants tokens rest form (ih behind wants rest run) in record {
      bare = read.bare;
      skipped = Passes is read.skipped;
      parsed = read.parsed;
    })

sound_form : (mode : Mode) (wants : List Rule) (token : Lexeme) (tokens : List Lexeme) (taken : Option Rule) (next : State) →
    Rest tokens → fed_in_form mode wants token.terminal ≡ Ok (taken, next) → Reading mode wants token tokens taken next
unfolding fed_in_form
sound_form mode wants token tokens taken next ih answer =
    sound_row mode wants token tokens taken next (skip_row mode token.terminal) ih refl answer

-- a rule took the comma before the token
sound_given : (wants : List Rule) (comma token : Lexeme) (tokens : List Lexeme) (taken : Option Rule) (next : State)
    (found : Result (Rule × List Rule) Rule) (rest : List Told) → Rest tokens → comma.terminal ≡ t.Comma →
    drops_comma token.terminal ≡ false → advance 3 wants t.Comma ≡ found → with_comma found token.terminal ≡ Ok (taken, next) →
    runs next tokens ≡ Some (rest, done) → BareParsed m.Free wants (comma ∷ token ∷ tokens) (noted taken token ++ rest)
sound_given wants comma token tokens taken next (Err rule) rest ih is_comma drops is answer run = cc
sound_given wants comma token tokens taken next (Ok (rule, left)) rest ih is_comma drops is answer run =
    let read = sound_free left token tokens taken next ih answer rest run in
    let given : advance 3 wants comma.terminal ≡ Ok (rule, left) = rw is_comma is in
    record {
      bare = comma ∷ read.bare;
      skipped = Keeps_comma is_comma drops read.skipped;
      parsed =
          subst (λ front. Parses wants (comma ∷ read.bare) (front ++ (noted taken token ++ rest))) (told_comma rule comma is_comma)
          (advance_sound 3 wants comma rule left read.bare (noted taken token ++ rest) given read.parsed);
    }

sound_dropped : (wants : List Rule) (comma token : Lexeme) (tokens : List Lexeme) (taken : Option Rule) (next : State) (drops : Bool)
    (rest : List Told) → Rest tokens → comma.terminal ≡ t.Comma → drops_comma token.terminal ≡ drops →
    dropped_or_not drops wants token.terminal ≡ Ok (taken, next) → runs next tokens ≡ Some (rest, done) →
    BareParsed m.Free wants (comma ∷ token ∷ tokens) (noted taken token ++ rest)
sound_dropped wants comma token tokens taken next false rest ih is_comma is answer run =
    sound_given wants comma token tokens taken next (advance 3 wants t.Comma) rest ih is_comma is refl answer run
sound_dropped wants comma token tokens taken next true rest ih is_comma is answer run =
    let read = sound_free wants token tokens taken next ih answer rest run in
    record { bare = read.bare; skipped = Drops_comma is_comma is read.skipped; parsed = read.parsed }

sound_comma : (wants : List Rule) (comma token : Lexeme) (tokens : List Lexeme) (taken : Option Rule) (next : State) (rest : List Told) →
    Rest tokens → comma.terminal ≡ t.Comma → fed_behind_comma wants token.terminal ≡ Ok (taken, next) →
    runs next tokens ≡ Some (rest, done) → BareParsed m.Free wants (comma ∷ token ∷ tokens) (noted taken token ++ rest)
unfolding fed_behind_comma
sound_comma wants comma token tokens taken next rest ih is_comma answer run =
    sound_dropped wants comma token tokens taken next (drops_comma token.terminal) rest ih is_comma refl answer run

sound_step : (mode : Mode) (wants : List Rule) (token : Lexeme) (tokens : List Lexeme) (taken : Option Rule) (next : State)
    (rest : List Told) → Rest tokens → fed (state mode wants) token.terminal ≡ Ok (taken, next) →
    runs next tokens ≡ Some (rest, done) → Sound mode wants (token ∷ tokens) (noted taken token ++ rest)
unfolding fed
sound_step m.Free wants token tokens taken next rest ih answer run = sound_free wants token tokens taken next ih answer rest run
sound_step m.Comma wants token tokens taken next rest ih answer run =
    λ comma is_comma. sound_comma wants comma token tokens taken next rest ih is_comma answer run
sound_step mode wants token tokens taken next rest ih answer run = sound_form mode wants token tokens taken next ih answer rest run

sound_end : (mode : Mode) (wants : List Rule) (nodes : List Told) → runs (state mode wants) [] ≡ Some (nodes, done) →
    Sound mode wants [] nodes
unfolding runs
sound_end mode wants nodes is =
    let pair = some_is is in
    let mode_is : mode ≡ m.Free = ap (λ (end : State). end.mode) (second_is pair) in
    let wants_are : wants ≡ [] = ap (λ (end : State). end.wants) (second_is pair) in
    let end : Sound m.Free [] [] [] = record { bare = []; skipped = Ends; parsed = Nothing } in
    subst (λ all. Sound mode wants [] all) (first_is pair)
    (subst (λ all. Sound mode all [] []) (sym wants_are) (subst (λ at. Sound at [] [] []) (sym mode_is) end))

pub sound : (tokens : List Lexeme) (mode : Mode) (wants : List Rule) (nodes : List Told) →
    runs (state mode wants) tokens ≡ Some (nodes, done) → Sound mode wants tokens nodes
sound [] mode wants nodes is = sound_end mode wants nodes is
sound (token ∷ tokens) mode wants nodes is =
    let step = stepped (state mode wants) done token tokens nodes is in
    subst (λ all. Sound mode wants (token ∷ tokens) all) step.nodes_are
    (sound_step mode wants token tokens step.taken step.next step.rest
    (λ behind rules kept run. sound tokens behind rules kept run) step.fed_is step.runs_is)

-- ---- the machine reads the items of a module

nothing_parsed : (wants : List Rule) (nodes : List Told) → Parses wants [] nodes → (wants ≡ []) × (nodes ≡ [])
nothing_parsed _ _ Nothing = (refl, refl)

pub complete : (mode : Mode) (tokens bare : List Lexeme) (wants : List Rule) (nodes : List Told) → Bare mode tokens bare →
    Parses wants bare nodes → runs (state mode wants) tokens ≡ Some (nodes, done)
unfolding runs noted
complete _ _ _ wants nodes Ends parsed =
    let none = nothing_parsed wants nodes parsed in
    rw (none.0, none.1) refl
complete _ _ _ wants nodes (Keeps {token = token} {tokens = tokens} {bare = bare} comma skip skipped) parsed =
    let step = advance_complete wants token bare nodes parsed in
    let rest = complete m.Free tokens bare step.left step.rest skipped step.parsed in
    runs_step (state m.Free wants) (state m.Free step.left) done token tokens (Some step.rule) step.rest
    (fed_takes wants step.left token.terminal step.rule comma skip step.advance_is) rest
    ∙ ap (λ all. Some (all, done)) (sym step.nodes_are)
complete _ _ _ wants nodes (Skips {mode = mode} {token = token} {tokens = tokens} {bare = bare} is skipped) parsed =
    runs_step (state m.Free wants) (state mode wants) done token tokens None nodes (fed_skips wants token.terminal mode is)
    (complete mode tokens bare wants nodes skipped parsed)
complete _ _ _ wants nodes (Passes {mode = mode} {next = next} {token = token} {tokens = tokens} {bare = bare} is skipped) parsed =
    runs_step (state mode wants) (state next wants) done token tokens None nodes (fed_passes mode wants token.terminal next is)
    (complete next tokens bare wants nodes skipped parsed)
complete _ _ _ wants nodes (Keeps_comma {comma = comma} {token = token} {tokens = tokens} {bare = bare} is drops skipped) parsed =
    let step = advance_complete wants comma bare nodes parsed in
    let rest = complete m.Free (token ∷ tokens) bare step.left step.rest skipped step.parsed in
    let given : advance 3 wants t.Comma ≡ Ok (step.rule, step.left) =
    subst (λ (terminal : Terminal). advance 3 wants terminal ≡ Ok (step.rule, step.left)) is step.advance_is in
    let kept : nodes ≡ step.rest = step.nodes_are ∙ ap (λ front. front ++ step.rest) (told_comma step.rule comma is) in
    runs_step (state m.Free wants) (state m.Comma wants) done comma (token ∷ tokens) None step.rest
    (fed_holds wants comma.terminal is)
    (runs_same (state m.Comma wants) (state m.Free step.left) token tokens
    (fed_with_comma wants step.left token.terminal step.rule drops given) ∙ rest)
    ∙ ap (λ all. Some (all, done)) (sym kept)
complete _ _ _ wants nodes (Drops_comma {comma = comma} {token = token} {tokens = tokens} {bare = bare} is drops skipped) parsed =
    runs_step (state m.Free wants) (state m.Comma wants) done comma (token ∷ tokens) None nodes (fed_holds wants comma.terminal is)
    (runs_same (state m.Comma wants) (state m.Free wants) token tokens (fed_drops wants token.terminal drops)
    ∙ complete m.Free (token ∷ tokens) bare wants nodes skipped parsed)
