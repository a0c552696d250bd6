use Rattle.std.proofs.Common.{◌≡◌, drop}
use Rattle.ir_types.specs.Input.{value_among}
use Rattle.ir_types.proofs.input.Input.slot_value.Given as goal

abbrev pub invariant-loop-slot : goal.invariant-loop-slot
invariant-loop-slot l = value_among (drop l.slot-index l.self.slots) l.number ≡ value_among l.self.slots l.number
