-- Where no fault is noted in the end, none was noted before.
use Rattle.std.proofs.Common.{◌≡◌, ℕ, Bool, true, false, Option, Some, None, refl}
use Rattle.std.specs.Prelude.{nat_le, nat_lt, if◌then◌else◌}
use Rattle.module_fault.specs.declared.cause.Cause.{Cause}
use Rattle.module_fault.specs.declared.fault.Fault.{Fault}
use Rattle.module_fault.specs.Cause.{lesser, rank, unless}
use Rattle.module_fault.specs.Fault.{earlier, earlier_of, fault_at, note}

-- one of two is always answered
lesser_by : (test : Bool) (line : ℕ) (one other : Cause) → fault_at line (if test then Some one else Some other) ≡ None → ⊥
lesser_by true line one other none = cc
lesser_by false line one other none = cc

earlier_by : (before behind : Bool) (one other : Fault) (both : Option Fault) → (both ≡ None → ⊥) →
    (if before then Some one else if behind then Some other else both) ≡ None → ⊥
earlier_by true behind one other both is none = cc
earlier_by false true one other both is none = cc
earlier_by false false one other both is none = is none

earlier_of_some : (one other : Fault) → earlier_of one other ≡ None → ⊥
earlier_of_some one other none =
    earlier_by (nat_lt one.line other.line) (nat_lt other.line one.line) one other
    (fault_at one.line (lesser (Some one.cause) (Some other.cause)))
    (lesser_by (nat_le (rank one.cause) (rank other.cause)) one.line one.cause other.cause) none

earlier_none : (one other : Option Fault) → earlier one other ≡ None → (one ≡ None) × (other ≡ None)
earlier_none None other none = (refl, none)
earlier_none (Some one) None none = cc
earlier_none (Some one) (Some other) none = absurd (earlier_of_some one other none)

no_cause : (line : ℕ) (cause : Option Cause) → fault_at line cause ≡ None → cause ≡ None
no_cause line None none = refl
no_cause line (Some cause) none = cc

-- a fault that was noted stays, and so does one that is noted now
pub note_none : (found : Option Fault) (line : ℕ) (cause : Option Cause) → note found line cause ≡ None → (found ≡ None) × (cause ≡ None)
note_none found line cause none =
    let are = earlier_none found (fault_at line cause) none in (are.0, no_cause line cause are.1)

pub unless_none : (holds : Bool) (cause : Cause) → unless holds cause ≡ None → holds ≡ true
unless_none true cause none = refl
unless_none false cause none = cc
