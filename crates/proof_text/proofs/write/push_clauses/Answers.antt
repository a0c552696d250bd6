use Rattle.std.proofs.Common.{◌∙◌, ap, sym}
use Rattle.proof_text.specs.Text.{clause_line}
use Rattle.proof_text.proofs.Written.{row-kept, row-pushed}
use Rattle.proof_text.proofs.write.push_clauses.Goals.{in-Some+in_ok-push_clause, in_default}
use Rattle.proof_text.proofs.write.push_clauses.Goals as goal

pub loop-at-preserved : goal.loop-at-preserved
loop-at-preserved c = elim c.match-get.branch [
  | in-Some+in_ok-push_clause w ↦ ap (λ text. text.items) w.text-is
      ∙ row-pushed clause_line c.args.clauses.now c.loop-at.at w.in-Some.clause.now c.args.text.now.items c.loop-at.text.items w.push_clause.new.text.items
      (sym w.in-Some.ensures) c.loop-at.invariant w.in_ok-push_clause.ensures
  | in_default w ↦ ap (λ text. text.items) w.text-is
      ∙ row-kept clause_line c.args.clauses.now c.loop-at.at c.args.text.now.items c.loop-at.text.items (sym w.in_default.ensures) c.loop-at.invariant
]
