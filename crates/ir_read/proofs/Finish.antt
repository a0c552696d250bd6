-- Each rule can be finished by some tokens, and so can all that is wanted.
use Rattle.std.proofs.Common.{◌≡◌, true, List, [], ◌∷◌, ◌++◌, map, Option, Some, None, refl, ap, ◌∙◌}
use Rattle.std.specs.Prelude.{All}
use Rattle.std.specs.List.{list_all}
use Rattle.std.proofs.lemmas.List.Elements.{All-append, All-nil}
use Rattle.ir_read.specs.declared.grammar.Rule.{Rule}
use Rattle.ir_read.specs.declared.grammar.Rule.TheVariants as r
use Rattle.ir_read.specs.declared.skip.Mode.{Mode}
use Rattle.ir_read.specs.declared.skip.Mode.TheVariants as m
use Rattle.ir_read.specs.declared.terminal.Terminal.{Terminal}
use Rattle.ir_read.specs.declared.terminal.Terminal.TheVariants as t
use Rattle.ir_read.specs.Grammar.{otherwise, row}
use Rattle.ir_read.specs.Laws.{IsReal}
use Rattle.ir_read.specs.Machine.{State, done, fed, fed_behind_comma, fed_free, fed_in_form, state}
use Rattle.ir_read.specs.Node.{Lexeme, Told, is_kept, noted, told}
use Rattle.ir_read.specs.Skip.{drops_comma, is_comma, skip_of, skip_row}
use Rattle.ir_read.specs.Wants.{advance}
use Rattle.ir_read.proofs.Equations.{some_is}
use Rattle.ir_read.proofs.Runs.{runs, runs_join}
use Rattle.ir_read.proofs.Samples.{all_real, is_good, spelled}

-- tokens by which the rule is finished
finish : Rule → List Terminal
finish r.Items = t.End ∷ []
finish r.Equals = t.Equals ∷ []
finish r.KeyType = t.KeyType ∷ []
finish r.GlobalKind = t.KeyGlobal ∷ []
finish r.GlobalName = t.Global ∷ []
finish r.DefinedName = t.Global ∷ []
finish r.OpenDeclared = t.LeftParen ∷ t.RightParen ∷ []
finish r.Declared = t.RightParen ∷ []
finish r.DeclaredName = t.RightParen ∷ []
finish r.MoreDeclared = t.RightParen ∷ []
finish r.NextDeclared = t.Int ∷ t.RightParen ∷ []
finish r.OpenParameters = t.LeftParen ∷ t.RightParen ∷ []
finish r.Parameters = t.RightParen ∷ []
finish r.ParameterType = t.Int ∷ []
finish r.ParameterName = t.RightParen ∷ []
finish r.MoreParameters = t.RightParen ∷ []
finish r.OpenBody = t.LeftBrace ∷ []
finish r.CloseParen = t.RightParen ∷ []
finish r.Type = t.Int ∷ []
finish r.Aggregate = t.LeftBrace ∷ t.RightBrace ∷ []
finish r.ArraySize = t.Natural ∷ []
finish r.KeyX = t.KeyX ∷ []
finish r.CloseArray = t.RightBracket ∷ []
finish r.Fields = t.RightBrace ∷ []
finish r.MoreFields = t.RightBrace ∷ []
finish r.PackedBrace = t.LeftBrace ∷ []
finish r.CloseType = t.Greater ∷ []
finish r.ValueType = t.Int ∷ []
finish r.ResultType = t.Int ∷ []
finish r.Literal = t.Natural ∷ []
finish r.Initializer = t.Natural ∷ []
finish r.Elements = t.RightBracket ∷ []
finish r.MoreElements = t.RightBracket ∷ []
finish r.Members = t.RightBrace ∷ []
finish r.MoreMembers = t.RightBrace ∷ []
finish r.CloseMembers = t.Greater ∷ []
finish r.Operand = t.Natural ∷ []
finish r.OpenConstant = t.LeftParen ∷ []
finish r.CommaPtr = t.Comma ∷ t.Ptr ∷ []
finish r.KeyPtr = t.Ptr ∷ []
finish r.Indices = t.RightParen ∷ []
finish r.KeyTo = t.KeyTo ∷ []
finish r.Body = t.RightBrace ∷ []
finish r.Operation = t.Alloca ∷ t.Int ∷ t.RightBrace ∷ []
finish r.Predicate = t.Predicate ∷ []
finish r.CommaTyped = t.Comma ∷ t.Int ∷ t.Natural ∷ []
finish r.CommaOperand = t.Comma ∷ t.Natural ∷ []
finish r.CommaLabel = t.Comma ∷ t.KeyLabel ∷ t.Local ∷ []
finish r.KeyLabel = t.KeyLabel ∷ []
finish r.LocalName = t.Local ∷ []
finish r.Edge = t.LeftBracket ∷ t.Natural ∷ t.Comma ∷ t.Local ∷ t.RightBracket ∷ []
finish r.CommaBlock = t.Comma ∷ t.Local ∷ []
finish r.CloseEdge = t.RightBracket ∷ []
finish r.MoreEdges = t.RightBrace ∷ []
finish r.Count = t.RightBrace ∷ []
finish r.Steps = t.RightBrace ∷ []
finish r.Branch = t.KeyLabel ∷ t.Local ∷ t.RightBrace ∷ []
finish r.OpenCases = t.LeftBracket ∷ t.RightBracket ∷ t.RightBrace ∷ []
finish r.Cases = t.RightBracket ∷ t.RightBrace ∷ []
finish r.Returned = t.Void ∷ t.RightBrace ∷ []
finish r.Callee = t.Global ∷ t.LeftParen ∷ t.RightParen ∷ t.RightBrace ∷ []
finish r.Written = t.RightParen ∷ []
finish r.MoreWritten = t.RightParen ∷ []
finish r.NextWritten = t.Int ∷ t.RightParen ∷ []
finish r.CloseWritten = t.RightParen ∷ []
finish r.CalleeName = t.Global ∷ []
finish r.OpenArguments = t.LeftParen ∷ t.RightParen ∷ t.RightBrace ∷ []
finish r.Arguments = t.RightParen ∷ t.RightBrace ∷ []
finish r.MoreArguments = t.RightParen ∷ t.RightBrace ∷ []

-- tokens behind which reading stands outside of skipped forms
closing : Mode → List Terminal
closing m.Free = []
closing m.Comma = t.MetadataName ∷ t.MetadataNumber ∷ []
closing m.AlignNumber = t.Natural ∷ []
closing m.DereferenceableOpen = t.LeftParen ∷ t.Natural ∷ t.RightParen ∷ []
closing m.DereferenceableNumber = t.Natural ∷ t.RightParen ∷ []
closing m.CapturesOpen = t.LeftParen ∷ t.KeyNone ∷ t.RightParen ∷ []
closing m.CapturesNone = t.KeyNone ∷ t.RightParen ∷ []
closing m.FormClose = t.RightParen ∷ []
closing m.MetadataNumber = t.MetadataNumber ∷ []

abbrev ends : Option (List Told × State) → Option State
ends None = None
ends (Some (kept, end)) = Some end

rule_finishes : (rule : Rule) (wants : List Rule) →
    ends (runs (state m.Free (rule ∷ wants)) (map spelled (finish rule))) ≡ Some (state m.Free wants)
unfolding finish spelled runs fed fed_free fed_behind_comma advance row otherwise is_comma skip_of drops_comma noted told is_kept
rule_finishes r.Items wants = refl
rule_finishes _ wants = refl

mode_closes : (mode : Mode) (wants : List Rule) →
    ends (runs (state mode wants) (map spelled (closing mode))) ≡ Some (state m.Free wants)
unfolding closing spelled runs fed fed_free fed_behind_comma fed_in_form is_comma skip_of skip_row drops_comma noted
mode_closes m.Free wants = refl
mode_closes _ wants = refl

rule_real : (rule : Rule) → list_all is_good (finish rule) ≡ true
unfolding finish
rule_real r.Items = refl
rule_real _ = refl

mode_real : (mode : Mode) → list_all is_good (closing mode) ≡ true
unfolding closing
mode_real m.Free = refl
mode_real _ = refl

-- ---- all that is wanted

pub record Finished (from end : State) : Type 0 where
  pub tokens : List Lexeme
  pub kept : List Told
  pub run : runs from tokens ≡ Some (kept, end)
  pub real : All IsReal tokens

finished_by : (from end : State) (tokens : List Lexeme) (run : Option (List Told × State)) → runs from tokens ≡ run →
    ends run ≡ Some end → All IsReal tokens → Finished from end
finished_by from end tokens None is found real = cc
finished_by from end tokens (Some (kept, last)) is found real = record {
  tokens = tokens;
  kept = kept;
  run = is ∙ ap (λ (state : State). Some (kept, state)) (some_is found);
  real = real;
}

join : (from between end : State) → Finished from between → Finished between end → Finished from end
join from between end first second = record {
  tokens = first.tokens ++ second.tokens;
  kept = first.kept ++ second.kept;
  run = runs_join first.tokens from between end second.tokens first.kept second.kept first.run second.run;
  real = All-append IsReal first.tokens second.tokens first.real second.real;
}

finish_wants : (wants : List Rule) → Finished (state m.Free wants) done
unfolding runs
finish_wants [] = record { tokens = []; kept = []; run = refl; real = All-nil IsReal }
finish_wants (rule ∷ wants) =
    let first = finished_by (state m.Free (rule ∷ wants)) (state m.Free wants) (map spelled (finish rule)) _ refl
    (rule_finishes rule wants) (all_real (finish rule) (rule_real rule)) in
    join (state m.Free (rule ∷ wants)) (state m.Free wants) done first (finish_wants wants)

-- what was read so far can be read to its end
pub finish_state : (mode : Mode) (wants : List Rule) → Finished (state mode wants) done
finish_state mode wants =
    let first = finished_by (state mode wants) (state m.Free wants) (map spelled (closing mode)) _ refl
    (mode_closes mode wants) (all_real (closing mode) (mode_real mode)) in
    join (state mode wants) (state m.Free wants) done first (finish_wants wants)
