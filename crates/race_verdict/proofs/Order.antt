-- The order of the classes: which of several answers is the verdict.
use Rattle.std.proofs.Common.{◌≡◌, ℕ, ◌+◌, ◌≤◌, Option, Some, None, refl, ap, arith}
use Rattle.std.specs.Prelude.{◌↔◌}
use Rattle.race_verdict.specs.declared.verdict.Verdict.{Verdict}
use Rattle.race_verdict.specs.declared.verdict.Verdict.TheVariants.{SpecViolated, SingleOrdering, OutputDiffers, Unresolved, Harmless}
use Rattle.race_verdict.specs.Verdict.{else_}
use Rattle.race_verdict.specs.VerdictLaws.{IsOutputDiffers, IsSpecViolated, IsUnresolved}

-- the number of a class, in their order
abbrev pub class_of : Verdict → ℕ
class_of (SpecViolated path schedule input turns fault) = 0
class_of (SingleOrdering reason turns) = 1
class_of (OutputDiffers path schedule input primary prints turns output) = 2
class_of (Unresolved path schedule input turns) = 3
class_of (Harmless runs) = 4

-- what is found is of this class
abbrev pub Gives : ℕ → Option Verdict → Type 0
Gives class found = (verdict : Verdict) → found ≡ Some verdict → class_of verdict ≡ class

pub violated-class : (verdict : Verdict) → IsSpecViolated verdict → class_of verdict ≡ 0
violated-class (SpecViolated path schedule input turns fault) is = refl
violated-class (SingleOrdering reason turns) is = absurd is
violated-class (OutputDiffers path schedule input primary prints turns output) is = absurd is
violated-class (Unresolved path schedule input turns) is = absurd is
violated-class (Harmless runs) is = absurd is

pub class-violated : (verdict : Verdict) → class_of verdict ≡ 0 → IsSpecViolated verdict
class-violated (SpecViolated path schedule input turns fault) is = tt
class-violated (SingleOrdering reason turns) is = absurd (omega arith)
class-violated (OutputDiffers path schedule input primary prints turns output) is = absurd (omega arith)
class-violated (Unresolved path schedule input turns) is = absurd (omega arith)
class-violated (Harmless runs) is = absurd (omega arith)

pub differs-class : (verdict : Verdict) → IsOutputDiffers verdict → class_of verdict ≡ 2
differs-class (SpecViolated path schedule input turns fault) is = absurd is
differs-class (SingleOrdering reason turns) is = absurd is
differs-class (OutputDiffers path schedule input primary prints turns output) is = refl
differs-class (Unresolved path schedule input turns) is = absurd is
differs-class (Harmless runs) is = absurd is

pub unresolved-class : (verdict : Verdict) → IsUnresolved verdict → class_of verdict ≡ 3
unresolved-class (SpecViolated path schedule input turns fault) is = absurd is
unresolved-class (SingleOrdering reason turns) is = absurd is
unresolved-class (OutputDiffers path schedule input primary prints turns output) is = absurd is
unresolved-class (Unresolved path schedule input turns) is = refl
unresolved-class (Harmless runs) is = absurd is

-- an answer of the verdict's class is the verdict, where what comes after is of a later class
pub at_class : (class : ℕ) (found : Option Verdict) (later verdict : Verdict) → class_of verdict ≡ class →
    class + 1 ≤ class_of later → (else_ found later ≡ verdict) ↔ (found ≡ Some verdict)
at_class class None later verdict is after = (
  λ e. let same : class_of later ≡ class_of verdict = ap class_of e in absurd (omega arith),
  λ e. absurd (let h : ⊥ = cc in h),
)
at_class class (Some found) later verdict is after = (λ e. ap Some e, λ e. cc)

-- an answer of an earlier class is none
pub past_class : (class : ℕ) (found : Option Verdict) (later verdict : Verdict) → Gives class found →
    class + 1 ≤ class_of verdict → (else_ found later ≡ verdict) ↔ ((found ≡ None) × (later ≡ verdict))
past_class class None later verdict gives after = (λ e. (refl, e), λ p. p.1)
past_class class (Some found) later verdict gives after = (
  λ e.
      let same : class_of found ≡ class_of verdict = ap class_of e in
      let is : class_of found ≡ class = gives found refl in
      absurd (omega arith),
  λ p. absurd (let h : ⊥ = cc (p.0) in h),
)

-- an answer and what comes after are of no earlier class
pub from_class : (class : ℕ) (found : Option Verdict) (later : Verdict) → Gives class found →
    class + 1 ≤ class_of later → class ≤ class_of (else_ found later)
from_class class None later gives after = omega arith
from_class class (Some found) later gives after = let is : class_of found ≡ class = gives found refl in omega arith

pub both : {A B C D : Type 0} → A ↔ B → C ↔ D → (A × C) ↔ (B × D)
both one other = (λ p. (one.0 p.0, other.0 p.1), λ p. (one.1 p.0, other.1 p.1))

pub through : {A B C : Type 0} → A ↔ B → B ↔ C → A ↔ C
through one other = (λ a. other.0 (one.0 a), λ c. one.1 (other.1 c))

pub same : {A : Type 0} → A ↔ A
same = (λ a. a, λ a. a)
