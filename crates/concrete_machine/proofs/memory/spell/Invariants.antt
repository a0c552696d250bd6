use Rattle.std.proofs.Common.{◌≡◌, ◌-◌, ◌++◌, length, take}
use Rattle.machine_model.specs.Memory.{bytes_of}
use Rattle.concrete_machine.proofs.memory.spell.Given as goal

abbrev pub invariant-loop-byte : goal.invariant-loop-byte
invariant-loop-byte l =
    bytes_of (length l.bytes) l.fn.number ≡ take l.byte-index l.bytes ++ bytes_of (length l.bytes - l.byte-index) l.rest
