use Rattle.std.proofs.Common.{◌≡◌, ◌++◌, drop}
use Rattle.report_text.specs.Input.{input_text, slot_text}
use Rattle.report_text.proofs.Words.{after_spaces}
use Rattle.report_text.proofs.input.push_input.Given as goal

abbrev pub invariant-loop-slot : goal.invariant-loop-slot
invariant-loop-slot l =
    l.text.items ++ after_spaces slot_text (drop l.slot-index l.others) ≡ l.fn.text.items ++ input_text l.fn.input
