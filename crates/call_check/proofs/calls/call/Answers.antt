use Rattle.std.proofs.Common.{◌∙◌, ap}
use Rattle.call_check.specs.Call.{arguments_for, pieces_for}
use Rattle.call_check.proofs.Parts.{call_of}
use Rattle.call_check.proofs.calls.call.Goals as goal

pub returns : goal.returns
returns c =
    c.finished.ensures
    ∙ call_of c.args.scope.now c.args.to c.args.is_named c.args.operands.now
    c.scope.inside.names.now c.new-ahead.result c.new-phrases.result c.take_head-head.result c.in_ok-pieces.pieces
    c.in_ok-arguments.arguments c.take_head-head.new.phrases c.take_head-head-2.new.phrases
    (ap (λ scope. scope.names) c.scope.view_is) c.new-ahead.ensures c.new-phrases.ensures
    c.take_head-head.ensures.head c.take_head-head.ensures.rest c.take_head-head-2.ensures.rest
    (c.in_ok-pieces.ensures
    ∙ ap (λ head. pieces_for c.scope.inside.names.now head.callee c.take_head-head.new.phrases) c.head.view_is)
    (c.in_ok-arguments.ensures
    ∙ ap (λ head. arguments_for c.args.scope.now head.callee c.in_ok-pieces.pieces c.take_head-head-2.new.phrases) c.head.view_is)
