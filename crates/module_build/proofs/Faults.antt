-- Where nothing is wrong, nothing is wrong in any part.
use Rattle.std.proofs.Common.{◌≡◌, ℕ, Bool, true, false, nat_le, nat_lt, Option, Some, None, refl, if◌then◌else◌}
use Rattle.module_fault.specs.declared.cause.Cause.{Cause}
use Rattle.module_fault.specs.declared.fault.Fault.{Fault}
use Rattle.module_fault.specs.Cause.{lesser, rank}
use Rattle.module_fault.specs.Fault.{earlier, fault_at, note}
use Rattle.module_check.specs.Names.{or_no_main}

chosen : (test : Bool) (first second : Cause) → (if test then Some first else Some second) ≡ None → ⊥
chosen true first second is = cc
chosen false first second is = cc

pub no_lesser : (one other : Option Cause) → lesser one other ≡ None → (one ≡ None) × (other ≡ None)
no_lesser None other is = (refl, is)
no_lesser (Some one) None is = absurd (let no : ⊥ = cc in no)
no_lesser (Some one) (Some other) is = absurd (chosen (nat_le (rank one) (rank other)) one other is)

two : (line : ℕ) (one other : Cause) → fault_at line (lesser (Some one) (Some other)) ≡ None → ⊥
two line one other is = go (nat_le (rank one) (rank other)) is
  where
    go : (test : Bool) → fault_at line (if test then Some one else Some other) ≡ None → ⊥
    go true is = cc
    go false is = cc

picked : (before behind : Bool) (one other : Fault) →
    (if before then Some one else if behind then Some other else fault_at one.line (lesser (Some one.cause) (Some other.cause))) ≡ None → ⊥
picked true behind one other is = cc
picked false true one other is = cc
picked false false one other is = two one.line one.cause other.cause is

pub no_earlier : (one other : Option Fault) → earlier one other ≡ None → (one ≡ None) × (other ≡ None)
no_earlier None other is = (refl, is)
no_earlier (Some one) None is = absurd (let no : ⊥ = cc in no)
no_earlier (Some one) (Some other) is = absurd (picked (nat_lt one.line other.line) (nat_lt other.line one.line) one other is)

no_fault : (line : ℕ) (cause : Option Cause) → fault_at line cause ≡ None → cause ≡ None
no_fault line None is = refl
no_fault line (Some cause) is = absurd (let no : ⊥ = cc in no)

pub no_note : (found : Option Fault) (line : ℕ) (cause : Option Cause) → note found line cause ≡ None → (found ≡ None) × (cause ≡ None)
no_note found line cause is =
    let both = no_earlier found (fault_at line cause) is in
    (both.0, no_fault line cause both.1)

pub no_fault_but_main : (first : Option Fault) (main : Option ℕ) → or_no_main first main ≡ None → first ≡ None
no_fault_but_main None main is = refl
no_fault_but_main (Some fault) main is = cc
