use Rattle.std.proofs.Common.{◌∙◌, ap}
use Rattle.instruction_check.specs.Control.{switch_on}
use Rattle.instruction_check.specs.Operand.{typed}
use Rattle.instruction_check.proofs.scope.Scope.switch.Goals as goal

pub returns : goal.returns
returns c =
    c.in_ok-found.ensures
    ∙ ap (λ given. switch_on c.args.self.now given c.take_typed.new.phrases) c.in_ok-given.ensures.typed
    ∙ ap (switch_on c.args.self.now (typed c.args.self.now c.args.phrases.now)) c.in_ok-given.ensures.rest
