use Rattle.std.proofs.Common.{refl, ap, arith}
use Rattle.std.proofs.lemmas.Result.{on_ok_weaker}
use Rattle.machine_model.specs.Repeat.{snapshot_of}
use Rattle.concrete_machine.specs.Course.{course_of}
use Rattle.race_top.specs.declared.order_enforcer.past.Past.{Past}
use Rattle.race_top.specs.Past.{kept_snapshot}
use Rattle.race_top.proofs.Pasts.{recalls-kept, recalls-passed}
use Rattle.race_top.proofs.order_enforcer.past.Past.note.Goals as goal

pub returns-then-self-clause-recalls : goal.returns-then-self-clause-recalls
returns-then-self-clause-recalls c = λ snapshots recalls.
    recalls-passed snapshots (snapshot_of (course_of c.args.course.now)) c.args.self.now _ recalls refl (omega arith) refl refl

pub returns-clause-recalls : goal.returns-clause-recalls
returns-clause-recalls c = on_ok_weaker c.keep.result (λ kept snapshots recalls.
    recalls-kept snapshots (snapshot_of (course_of c.args.course.now)) c.args.self.now c.keep.new.self recalls
    (ap (λ (past : Past). past.turns) kept)
    (omega (arith, ap (λ (past : Past). past.turns) kept))
    (omega (arith, ap (λ (past : Past). past.earlier) kept, ap (λ (past : Past). past.turns) kept))
    (ap kept_snapshot kept)) c.keep.ensures
