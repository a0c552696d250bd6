use Rattle.std.proofs.Common.{◌∙◌, ap, is_some, sym}
use Rattle.ir_items.specs.Phrase.{phrases_of}
use Rattle.module_build.proofs.Words.{call_is, is_there, phi_is, switch_is}
use Rattle.module_build.proofs.instruction.instruction.Goals as goal

pub returns-in_ok-found-in-Phi : goal.returns-in_ok-found-in-Phi
returns-in_ok-found-in-Phi c =
    phi_is c.args.scope.now c.args.to c.args.statement.now c.in_ok-found-in-Phi.found c.new-phrases.result
    c.in_ok-found-in-Phi.ensures
    (c.new-phrases.ensures ∙ ap (λ statement. phrases_of statement.operands) c.statement.view_is)
    (sym (ap (λ statement. statement.operation.terminal) c.statement.view_is)
    ∙ sym (ap (λ node. node.terminal) c.operation.view_is)
    ∙ c.in-Phi.is)

pub returns-in_ok-found-in-Switch : goal.returns-in_ok-found-in-Switch
returns-in_ok-found-in-Switch c =
    switch_is c.args.scope.now c.args.to c.args.statement.now c.in_ok-found-in-Switch.found c.new-phrases.result
    c.in_ok-found-in-Switch.ensures
    (c.new-phrases.ensures ∙ ap (λ statement. phrases_of statement.operands) c.statement.view_is)
    (sym (ap (λ statement. statement.operation.terminal) c.statement.view_is)
    ∙ sym (ap (λ node. node.terminal) c.operation.view_is)
    ∙ c.in-Switch.is)

pub returns-in_ok-found-in-Call : goal.returns-in_ok-found-in-Call
returns-in_ok-found-in-Call c =
    call_is c.args.scope.now c.args.to c.args.statement.now c.in_ok-found-in-Call.found
    c.is_some-is_named.result c.statement.inside.operands.now
    c.in_ok-found-in-Call.ensures
    (c.is_some-is_named.ensures
    ∙ is_there (λ node. node.now) c.statement.inside.result
    ∙ ap (λ statement. is_some statement.result) c.statement.view_is)
    (ap (λ statement. statement.operands) c.statement.view_is)
    (sym (ap (λ statement. statement.operation.terminal) c.statement.view_is)
    ∙ sym (ap (λ node. node.terminal) c.operation.view_is)
    ∙ c.in-Call.is)
