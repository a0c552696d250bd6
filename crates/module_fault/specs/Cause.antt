-- The causes of faults, in the order in which they are answered, and what is found beside one.
use Rattle.std.specs.Prelude.{ℕ, Bool, Option, Some, None, nat_le, List, [], ◌∷◌, ◌++◌, if◌then◌else◌}
use Rattle.module_fault.specs.declared.cause.Cause.{Cause}
use Rattle.module_fault.specs.declared.cause.Cause.TheVariants.{UnknownName, Duplicate, TypeMismatch, Unsupported, BadShape}
use Rattle.module_fault.specs.declared.cause.Found.{Found}

abbrev pub rank : Cause → ℕ
rank UnknownName = 0
rank Duplicate = 1
rank TypeMismatch = 2
rank Unsupported = 3
rank BadShape = 4

-- the one of two causes that is answered
abbrev pub lesser : Option Cause → Option Cause → Option Cause
lesser None other = other
lesser one None = one
lesser (Some first) (Some second) = if nat_le (rank first) (rank second) then Some first else Some second

-- the cause, unless it holds
abbrev pub unless : Bool → Cause → Option Cause
unless holds cause = if holds then None else Some cause

-- one more behind those so far
abbrev pub and_one : {A : Type 0} → Found (List A) → Found A → Found (List A)
and_one done one = record { value = done.value ++ one.value ∷ []; cause = lesser done.cause one.cause }
