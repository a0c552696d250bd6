use Rattle.proof_text.proofs.Written.{step-written}
use Rattle.proof_text.proofs.write.push_step.Goals as goal

pub returns : goal.returns
returns c =
    step-written c.args.step.clause.now c.args.step.hints.now c.args.text.now.items c.push_literals.new.text.items
    c.extend_from_slice.new.self.items c.push_hints.new.text.items c.extend_from_slice-2.new.self.items
    c.in_ok-push_literals.ensures c.in_ok-extend_from_slice.ensures.items c.in_ok-push_hints.ensures c.in_ok-extend_from_slice-2.ensures.items
