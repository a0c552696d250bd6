-- The faults of a module, and which of them is answered: that of the least line, and of those in one line that of the
-- lesser cause.
use Rattle.std.specs.Prelude.{ℕ, nat_lt, List, [], ◌∷◌, Option, Some, None, if◌then◌else◌}
use Rattle.module_fault.specs.declared.cause.Cause.{Cause}
use Rattle.module_fault.specs.Cause.{lesser}
use Rattle.module_fault.specs.declared.fault.Fault.{Fault}

abbrev pub fault_at : ℕ → Option Cause → Option Fault
fault_at line None = None
fault_at line (Some cause) = Some (record { line = line; cause = cause })

abbrev pub earlier_of : Fault → Fault → Option Fault
earlier_of one other =
    if nat_lt one.line other.line then Some one
    else if nat_lt other.line one.line then Some other
    else fault_at one.line (lesser (Some one.cause) (Some other.cause))

-- the one of two faults that is answered
abbrev pub earlier : Option Fault → Option Fault → Option Fault
earlier None other = other
earlier one None = one
earlier (Some one) (Some other) = earlier_of one other

-- one more behind the first of those so far
abbrev pub note : Option Fault → ℕ → Option Cause → Option Fault
note found line cause = earlier found (fault_at line cause)

abbrev pub first_from : Option Fault → List Fault → Option Fault
first_from found [] = found
first_from found (fault ∷ faults) = first_from (earlier found (Some fault)) faults

-- the one of several faults that is answered
abbrev pub first_of : List Fault → Option Fault
first_of faults = first_from None faults
