-- A call from its parts, one after the other.
use Rattle.std.proofs.Common.{◌≡◌, ◌∙◌, ℕ, Bool, List, Option, ap}
use Rattle.ir_items.specs.Phrase.{phrases_of}
use Rattle.ir_read.specs.Node.{Told}
use Rattle.ir_types.specs.declared.external.Piece.{Piece}
use Rattle.call_check.specs.declared.arguments.Arguments.{Arguments}
use Rattle.instruction_check.specs.declared.scope.ModuleNames.{ModuleNames}
use Rattle.call_check.specs.Call.{arguments_for, call, call_with, finished, pieces_for}
use Rattle.call_check.specs.Callee.{Head, arguments_in, head_of}
use Rattle.instruction_check.specs.Scope.{Scope}

-- a call of a head, of the pieces of its format and of its arguments
pub call_is : (scope : Scope) (to : ℕ) (is_named : Bool) (operands : List Told)
    (head : Head) (pieces : Option (List Piece)) (arguments : Arguments) (ahead rest : List (List Told)) →
    head ≡ head_of scope.names (phrases_of operands) →
    ahead ≡ arguments_in (phrases_of operands) → rest ≡ arguments_in (phrases_of operands) →
    pieces ≡ pieces_for scope.names head.callee ahead → arguments ≡ arguments_for scope head.callee pieces rest →
    finished scope.names to is_named head pieces arguments ≡ call scope to is_named operands
call_is scope to is_named operands head pieces arguments ahead rest same_head same_ahead same_rest same_pieces same_arguments =
    let due = head_of scope.names (phrases_of operands) in
    let given = arguments_in (phrases_of operands) in
    ap (finished scope.names to is_named head pieces) same_arguments
    ∙ ap (λ found. call_with scope to is_named head found rest) same_pieces
    ∙ ap (λ found. call_with scope to is_named found (pieces_for scope.names found.callee ahead) rest) same_head
    ∙ ap (λ found. call_with scope to is_named due (pieces_for scope.names due.callee found) rest) same_ahead
    ∙ ap (λ found. call_with scope to is_named due (pieces_for scope.names due.callee given) found) same_rest

-- the same of names and phrases that are seen apart
pub call_of : (scope : Scope) (to : ℕ) (is_named : Bool) (operands : List Told)
    (names : ModuleNames) (early late : List (List Told))
    (head : Head) (pieces : Option (List Piece)) (arguments : Arguments) (ahead rest : List (List Told)) →
    names ≡ scope.names → early ≡ phrases_of operands → late ≡ phrases_of operands →
    head ≡ head_of names early → ahead ≡ arguments_in early → rest ≡ arguments_in late →
    pieces ≡ pieces_for names head.callee ahead → arguments ≡ arguments_for scope head.callee pieces rest →
    finished names to is_named head pieces arguments ≡ call scope to is_named operands
call_of scope to is_named operands names early late head pieces arguments ahead rest
    same_names same_early same_late same_head same_ahead same_rest same_pieces same_arguments =
    ap (λ found. finished found to is_named head pieces arguments) same_names
    ∙ call_is scope to is_named operands head pieces arguments ahead rest
    (same_head ∙ ap (λ found. head_of found early) same_names ∙ ap (head_of scope.names) same_early)
    (same_ahead ∙ ap arguments_in same_early) (same_rest ∙ ap arguments_in same_late)
    (same_pieces ∙ ap (λ found. pieces_for found head.callee ahead) same_names) same_arguments
