use Rattle.std.proofs.Common.{◌∷◌, [], codes}
use Rattle.proof_text.specs.Text.{formula_lines, log_lines, numbers_line, entry_lines}
use Rattle.proof_text.proofs.Written.{parts-written}
use Rattle.proof_text.proofs.write.push_proof.Goals as goal

pub returns : goal.returns
unfolding entry_lines
returns c =
    parts-written (numbers_line (codes "proof") (c.args.proof.now.race ∷ [])) (formula_lines c.args.proof.now.formula.vars c.args.proof.now.formula.clauses)
    (log_lines c.args.proof.now.log) c.args.text.now.items c.push_number.new.text.items c.push.new.self.items c.push_formula.new.text.items c.push_log.new.text.items
    c.in_ok-push_number.ensures c.in_ok-push.ensures.items c.in_ok-push_formula.ensures c.in_ok-push_log.ensures
