-- The machine that reads tokens by the grammar, one at a time.
use Rattle.std.specs.Prelude.{Bool, true, false, ◌&&◌, List, [], ◌∷◌, Option, Some, None, Result, Ok, Err}
use Rattle.ir_read.specs.declared.grammar.Rule.{Rule}
use Rattle.ir_read.specs.declared.grammar.Rule.TheVariants as r
use Rattle.ir_read.specs.declared.machine.Refusal.{Refusal}
use Rattle.ir_read.specs.declared.machine.Refusal.TheVariants as refusals
use Rattle.ir_read.specs.declared.skip.Mode.{Mode}
use Rattle.ir_read.specs.declared.skip.Mode.TheVariants as m
use Rattle.ir_read.specs.declared.terminal.Terminal.{Terminal}
use Rattle.ir_read.specs.declared.terminal.Terminal.TheVariants as t
use Rattle.ir_read.specs.Skip.{drops_comma, is_comma, skip_of, skip_row}
use Rattle.ir_read.specs.Wants.{advance, is_nothing}

-- where a reading stands, and what is wanted of the tokens to come
pub record State : Type 0 where
  pub mode : Mode
  pub wants : List Rule

abbrev pub state : Mode → List Rule → State
state mode wants = record { mode = mode; wants = wants }

-- before the first token
abbrev pub begun : State
begun = state m.Free (r.Items ∷ [])

abbrev pub done : State
done = state m.Free []

-- the rule that took a token, if one did, and the state then; or why the token can't be read
abbrev pub Fed : Type 0
Fed = Result (Option Rule × State) Refusal

abbrev pub taken_by : Result (Rule × List Rule) Rule → Fed
taken_by (Ok (rule, wants)) = Ok (Some rule, state m.Free wants)
taken_by (Err rule) = Err (refusals.Token rule)

-- a skipped form begins, or a rule takes the token
abbrev pub skipped_or_taken : Option Mode → List Rule → Terminal → Fed
skipped_or_taken (Some mode) wants terminal = Ok (None, state mode wants)
skipped_or_taken None wants terminal = taken_by (advance 3 wants terminal)

abbrev pub held_or_not : Bool → List Rule → Terminal → Fed
held_or_not true wants terminal = Ok (None, state m.Comma wants)
held_or_not false wants terminal = skipped_or_taken (skip_of terminal) wants terminal

-- outside of skipped forms a comma is held until the next token
unfoldable pub fed_free : List Rule → Terminal → Fed
fed_free wants terminal = held_or_not (is_comma terminal) wants terminal

abbrev pub with_comma : Result (Rule × List Rule) Rule → Terminal → Fed
with_comma (Ok (rule, wants)) terminal = fed_free wants terminal
with_comma (Err rule) terminal = Err refusals.Comma

abbrev pub dropped_or_not : Bool → List Rule → Terminal → Fed
dropped_or_not true wants terminal = fed_free wants terminal
dropped_or_not false wants terminal = with_comma (advance 3 wants t.Comma) terminal

-- the comma before some skipped forms is skipped with them, else a rule has to take it
unfoldable pub fed_behind_comma : List Rule → Terminal → Fed
fed_behind_comma wants terminal = dropped_or_not (drops_comma terminal) wants terminal

abbrev pub formed : Mode → List Rule → Option Mode → Fed
formed mode wants (Some next) = Ok (None, state next wants)
formed mode wants None = Err (refusals.Form mode)

unfoldable pub fed_in_form : Mode → List Rule → Terminal → Fed
fed_in_form mode wants terminal = formed mode wants (skip_row mode terminal)

abbrev pub fed_in : Mode → List Rule → Terminal → Fed
fed_in m.Free wants terminal = fed_free wants terminal
fed_in m.Comma wants terminal = fed_behind_comma wants terminal
fed_in mode wants terminal = fed_in_form mode wants terminal

-- what a token does
unfoldable pub fed : State → Terminal → Fed
fed state terminal = fed_in state.mode state.wants terminal

abbrev pub is_free : Mode → Bool
is_free m.Free = true
is_free _ = false

-- the whole text is read
abbrev pub is_done : State → Bool
is_done state = is_free state.mode && is_nothing state.wants
