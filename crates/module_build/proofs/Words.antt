-- The instructions of several operands, by their words.
use Rattle.std.proofs.Common.{◌≡◌, ◌∙◌, ℕ, Bool, List, Option, Some, None, ap, is_some, option_map, refl, sym}
use Rattle.ir_read.specs.declared.terminal.Terminal.TheVariants as t
use Rattle.ir_read.specs.Node.{Told}
use Rattle.ir_items.specs.Phrase.{phrases_of}
use Rattle.ir_items.specs.Statement.{Statement}
use Rattle.ir_types.specs.declared.instruction.Inst.{Inst}
use Rattle.module_fault.specs.declared.cause.Found.{Found}
use Rattle.instruction_check.specs.Control.{phi, switch}
use Rattle.instruction_check.specs.Scope.{Scope}
use Rattle.call_check.specs.Call.{call}
use Rattle.module_build.specs.Instruction.{instruction, instruction_by}

pub phi_is : (scope : Scope) (to : ℕ) (statement : Statement) (found : Found Inst) (phrases : List (List Told)) →
    found ≡ phi scope to phrases → phrases ≡ phrases_of statement.operands → statement.operation.terminal ≡ t.Phi →
    found ≡ instruction scope to statement
phi_is scope to statement found phrases same operands word =
    same
    ∙ ap (phi scope to) operands
    ∙ ap (λ terminal. instruction_by terminal scope to statement (phrases_of statement.operands)) (sym word)

pub switch_is : (scope : Scope) (to : ℕ) (statement : Statement) (found : Found Inst) (phrases : List (List Told)) →
    found ≡ switch scope phrases → phrases ≡ phrases_of statement.operands → statement.operation.terminal ≡ t.Switch →
    found ≡ instruction scope to statement
switch_is scope to statement found phrases same operands word =
    same
    ∙ ap (switch scope) operands
    ∙ ap (λ terminal. instruction_by terminal scope to statement (phrases_of statement.operands)) (sym word)

pub call_is : (scope : Scope) (to : ℕ) (statement : Statement) (found : Found Inst) (is_named : Bool) (operands : List Told) →
    found ≡ call scope to is_named operands → is_named ≡ is_some statement.result → operands ≡ statement.operands →
    statement.operation.terminal ≡ t.Call → found ≡ instruction scope to statement
call_is scope to statement found is_named operands same named rest word =
    same
    ∙ ap (λ name. call scope to name operands) named
    ∙ ap (call scope to (is_some statement.result)) rest
    ∙ ap (λ terminal. instruction_by terminal scope to statement (phrases_of statement.operands)) (sym word)

-- something is there, however it is seen
pub is_there : {A B : Type 0} (seen : A → B) (found : Option A) → is_some found ≡ is_some (option_map seen found)
is_there seen None = refl
is_there seen (Some x) = refl
