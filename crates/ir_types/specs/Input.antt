-- What an input gives.
use Rattle.std.specs.Prelude.{ℕ, ◌==◌, List, [], ◌∷◌, if◌then◌else◌}
use Rattle.ir_types.specs.declared.input.Input.{Input}
use Rattle.ir_types.specs.declared.input.Slot.{Slot}

abbrev pub value_among : List Slot → ℕ → ℕ
value_among [] number = 0
value_among (slot ∷ slots) number = if slot.number == number then slot.value else value_among slots number

-- the value of the slot of this number, 0 where there is none
abbrev pub slot_value : Input → ℕ → ℕ
slot_value input number = value_among input.slots number
