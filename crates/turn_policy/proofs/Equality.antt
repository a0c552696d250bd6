-- Equal choosers.
use Rattle.std.proofs.Common.{◌≡◌, ℕ, Bool, true, false, eqb, Option, Some, None, refl}
use Rattle.std.specs.Option.{option_eq}
use Rattle.machine_model.specs.contracts.mode.ModePartialEq.TheImpl as mode
use Rattle.machine_model.specs.Policy.{Policy}
use Rattle.machine_model.specs.Repeat.{same_last, same_policy}

same_last-is : (one other : Option ℕ) → option_eq eqb one other ≡ same_last one other
same_last-is None None = refl
same_last-is None (Some other) = refl
same_last-is (Some one) None = refl
same_last-is (Some one) (Some other) = refl

-- the modes and the places are the same
pub same_policy-last : (one other : Policy) → (mode.ghosts).eq one.mode other.mode ≡ true →
    eqb one.follow.position other.follow.position ≡ true →
    option_eq eqb one.follow.last other.follow.last ≡ same_policy one other
unfolding same_policy
same_policy-last one other modes places = rw (modes, places) (same_last-is one.follow.last other.follow.last)

pub same_policy-modes : (one other : Policy) (answer : Bool) → answer ≡ false →
    (mode.ghosts).eq one.mode other.mode ≡ false → answer ≡ same_policy one other
unfolding same_policy
same_policy-modes one other answer is modes = rw modes is

pub same_policy-places : (one other : Policy) (answer : Bool) → answer ≡ false →
    (mode.ghosts).eq one.mode other.mode ≡ true → eqb one.follow.position other.follow.position ≡ false →
    answer ≡ same_policy one other
unfolding same_policy
same_policy-places one other answer is modes places = rw (modes, places) is
