use Rattle.std.proofs.Common.{sym, ◌∙◌, arith}
use Rattle.std.proofs.lemmas.Bool.Decides.{nat_tests}
use Rattle.machine_model.specs.Repeat.{snapshot_of}
use Rattle.machine_model.specs.System.{machine_of}
use Rattle.concrete_machine.specs.Course.{course_of}
use Rattle.race_top.proofs.Pasts.{repeats-kept, repeats-none}
use Rattle.race_top.proofs.order_enforcer.past.Past.repeats.Goals as goal

pub returns-then-self-gt0 : goal.returns-then-self-gt0
returns-then-self-gt0 c = λ setting snapshots recalls.
    c.is_at.ensures setting
    ∙ sym (repeats-kept (machine_of setting) snapshots c.args.self.now (snapshot_of (course_of c.args.course.now)) recalls (omega arith))

pub returns-else-self-gt0 : goal.returns-else-self-gt0
returns-else-self-gt0 c = λ setting snapshots recalls.
    rw (repeats-none (machine_of setting) snapshots c.args.self.now (snapshot_of (course_of c.args.course.now)) recalls (omega arith))
    (grind (arith, nat_tests))
