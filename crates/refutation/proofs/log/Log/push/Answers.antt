use Rattle.std.proofs.Common.{◌∙◌, ◌++◌, ◌∷◌, [], ap}
use Rattle.refutation.specs.Log.{log_step, steps_of}
use Rattle.refutation.proofs.Steps.{step_push}
use Rattle.refutation.proofs.log.Log.push.Goals as goal

pub returns-clause-pushed : goal.returns-clause-pushed
returns-clause-pushed c =
    ap (λ clauses. steps_of clauses c.push_onto.new.hints) c.in_ok-push_onto.ensures.clauses
    ∙ ap (steps_of (c.self.inside.clauses ++ c.args.clause.now ∷ [])) c.in_ok-push_onto.ensures.hints
    ∙ step_push c.self.inside.clauses c.self.inside.hints c.args.clause.now c.args.hints.now c.self.invariant
    ∙ ap (λ steps. steps ++ log_step c.args.clause.now c.args.hints.now ∷ []) c.self.view_is
