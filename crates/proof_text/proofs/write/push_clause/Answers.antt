use Rattle.proof_text.proofs.Written.{clause-written}
use Rattle.proof_text.proofs.write.push_clause.Goals as goal

pub returns : goal.returns
returns c =
    clause-written c.args.clause.now c.args.text.now.items c.push_literals.new.text.items c.extend_from_slice.new.self.items
    c.in_ok-push_literals.ensures c.in_ok-extend_from_slice.ensures.items
