-- Which rule takes a token.
use Rattle.std.specs.Prelude.{ℕ, Bool, true, false, zero, suc, List, [], ◌∷◌, ◌++◌, Option, Some, None, Result, Ok, Err}
use Rattle.ir_read.specs.declared.terminal.Terminal.{Terminal}
use Rattle.ir_read.specs.declared.grammar.Rule.{Rule}
use Rattle.ir_read.specs.declared.grammar.Rule.TheVariants as r
use Rattle.ir_read.specs.Grammar.{otherwise, row}

abbrev pub is_nothing : List Rule → Bool
is_nothing [] = true
is_nothing (rule ∷ wants) = false

-- by what the rule has in its row, and by what it stands for
abbrev pub chosen :
    Rule → List Rule → Option (List Rule) → Option (List Rule) → (List Rule → Result (Rule × List Rule) Rule) → Result (Rule × List Rule) Rule
chosen rule wants (Some more) other next = Ok (rule, more ++ wants)
chosen rule wants None None next = Err rule
chosen rule wants None (Some more) next = next more

-- the rule that takes the token, and what is wanted then; or the rule that can't take it. A rule stands for others
-- at most `depth` times.
unfoldable pub advance : ℕ → List Rule → Terminal → Result (Rule × List Rule) Rule
advance depth [] terminal = Err r.Items
advance zero (rule ∷ wants) terminal = chosen rule wants (row rule terminal) None (λ more. Err rule)
advance (suc depth) (rule ∷ wants) terminal =
    chosen rule wants (row rule terminal) (otherwise rule) (λ more. advance depth (more ++ wants) terminal)
