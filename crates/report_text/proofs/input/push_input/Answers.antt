use Rattle.std.proofs.Common.{sym, ◌∙◌}
use Rattle.report_text.specs.Input.{slot_text}
use Rattle.report_text.proofs.Words.{words-begun}
use Rattle.report_text.proofs.input.push_input.Goals as goal

pub loop-slot-init : goal.loop-slot-init
loop-slot-init c =
    words-begun slot_text _ _ _ _ _ (sym c.as_slice.ensures ∙ c.in-Some.ensures.cases.0) c.in_ok-push_slot.ensures
