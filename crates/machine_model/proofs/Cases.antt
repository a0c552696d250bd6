-- Proofs by the outcome of a test.
use Rattle.std.proofs.Common.{◌≡◌, Bool, true, false, cond, refl}

-- what holds of both sides of a choice, each where its test went so, holds of the choice
pub by_test : {A : Type 0} (P : A → Type 0) (test : Bool) (one other : A) →
    (test ≡ true → P one) → (test ≡ false → P other) → P (cond test one other)
by_test P true one other on_true on_false = on_true refl
by_test P false one other on_true on_false = on_false refl
