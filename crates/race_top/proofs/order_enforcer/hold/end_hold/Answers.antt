use Rattle.std.proofs.Common.{ap, sym, ◌∙◌}
use Rattle.machine_model.specs.Hold.Held.{RunOver}
use Rattle.machine_model.specs.System.{machine_of}
use Rattle.concrete_machine.specs.Course.{course_of}
use Rattle.race_top.proofs.Holds.{over-ran}
use Rattle.race_top.proofs.order_enforcer.hold.end_hold.Goals as goal

pub returns-in_default-clause-held : goal.returns-in_default-clause-held
returns-in_default-clause-held c = λ setting.
    over-ran (machine_of setting) (course_of c.args.last) c.args.outcome c.in_default.not-Exit
    ∙ ap RunOver (sym (c.conclude.ensures setting))
