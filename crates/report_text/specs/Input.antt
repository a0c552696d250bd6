-- INPUT: the values of an input.
use Rattle.std.specs.Prelude.{ℕ, List, ◌++◌, codes, decimal, map}
use Rattle.ir_types.specs.declared.input.Input.{Input}
use Rattle.ir_types.specs.declared.input.Slot.{Slot}
use Rattle.report_text.specs.Lines.{words_text}

-- `SLOT=VALUE`
abbrev pub slot_text : Slot → List ℕ
slot_text slot = decimal slot.number ++ codes "=" ++ decimal slot.value

-- in the order of the slots
abbrev pub input_text : Input → List ℕ
input_text input = words_text (map slot_text input.slots)
