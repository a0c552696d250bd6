-- What the laws say of faults.
use Rattle.std.specs.Prelude.{◌≡◌, ◌<◌, ◌≤◌, ◌⊎◌, List, [], ◌∷◌}
use Rattle.std.specs.List.{AllByRecursion}
use Rattle.module_fault.specs.Cause.{rank}
use Rattle.module_fault.specs.declared.fault.Fault.{Fault}

-- the one stands in an earlier line, or in the same with no later cause
abbrev pub IsNotBehind : Fault → Fault → Type 0
IsNotBehind one other = (one.line < other.line) ⊎ ((one.line ≡ other.line) × (rank one.cause ≤ rank other.cause))

abbrev pub IsAmong : Fault → List Fault → Type 0
IsAmong fault [] = ⊥
IsAmong fault (first ∷ rest) = (fault ≡ first) ⊎ IsAmong fault rest

-- it is one of the faults, and none of them comes before it
pub record IsFirst (fault : Fault) (faults : List Fault) : Type 0 where
  pub among : IsAmong fault faults
  pub first : AllByRecursion (λ other. IsNotBehind fault other) faults
